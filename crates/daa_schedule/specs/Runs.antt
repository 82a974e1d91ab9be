-- Lists of steps, and histories, which are lists of steps that nothing refuses.
use Rattle.std.specs.Prelude.{◌≡◌, ℕ, ◌+◌, ◌<◌, Bool, true, false, ◌==◌, List, [], ◌∷◌, Option, Some, None, if◌then◌else◌}
use Rattle.daa_schedule.specs.CoreState.{CoreState, worker_count, has_ended}
use Rattle.daa_schedule.specs.Step.{fault_of, stepped}
use Rattle.daa_schedule.specs.declared.step.Step.{Step}
use Rattle.daa_schedule.specs.declared.step.Step.TheVariants.{Claim, Steal, Keep, Settle, End}
use Rattle.daa_schedule.specs.declared.step.StepFault.{StepFault}

-- the core after all steps, refused ones among them
abbrev pub run : CoreState → List Step → CoreState
run core [] = core
run core (step ∷ steps) = run (stepped core step) steps

-- every worker has ended
abbrev pub AllEnded : CoreState → Type 0
AllEnded core = (worker : ℕ) → worker < worker_count core → has_ended core worker ≡ true

-- whether a step is an End
abbrev pub is_end : Step → Bool
is_end (End by) = true
is_end (Claim by) = false
is_end (Steal by other) = false
is_end (Keep by) = false
is_end (Settle by word) = false

-- 1 for a step, but for an End, that nothing refuses
abbrev pub counts : Option StepFault → Step → ℕ
counts None step = if is_end step then 0 else 1
counts (Some fault) step = 0

-- how many of the steps, but for Ends, nothing refuses
abbrev pub accepted : CoreState → List Step → ℕ
accepted core [] = 0
accepted core (step ∷ steps) = counts (fault_of core step) step + accepted (stepped core step) steps

-- whose step it is
abbrev pub by_of : Step → ℕ
by_of (Claim by) = by
by_of (Steal by other) = by
by_of (Keep by) = by
by_of (Settle by word) = by
by_of (End by) = by

-- the steps of one worker among these
abbrev pub steps_of : ℕ → List Step → List Step
steps_of worker [] = []
steps_of worker (step ∷ steps) = if by_of step == worker then step ∷ steps_of worker steps else steps_of worker steps

-- nothing refuses any of the steps, one after the other
abbrev pub AllAccepted : CoreState → List Step → Type 0
AllAccepted core [] = Unit {0}
AllAccepted core (step ∷ steps) = (fault_of core step ≡ None) × AllAccepted (stepped core step) steps

-- the steps, none of them refused, lead from the one core to the other
pub record IsHistory (before : CoreState) (steps : List Step) (after : CoreState) : Type 0 where
  pub reached : run before steps ≡ after
  pub accepted_all : AllAccepted before steps
