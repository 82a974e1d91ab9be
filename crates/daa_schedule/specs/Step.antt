-- The steps of the schedule: what each does, and what refuses it.
use Rattle.std.specs.Prelude.{ℕ, Bool, true, ◌==◌, nat_lt, nat_le, not, ◌||◌, List, [], ◌∷◌, slice_index, slice_set, Option, Some, None, Result, Ok, Err, if◌then◌else◌}
use Rattle.daa_range.specs.Range.{range_len, lower_of, upper_of, first_unit_of, rest_of}
use Rattle.daa_schedule.specs.CoreState.{CoreState, worker_count, no_units, range_at, hand_at, has_ended}
use Rattle.daa_schedule.specs.declared.step.Step.{Step}
use Rattle.daa_schedule.specs.declared.step.Step.TheVariants.{Claim, Steal, Keep, Settle, End}
use Rattle.daa_schedule.specs.declared.step.StepFault.{StepFault}
use Rattle.daa_schedule.specs.declared.step.StepFault.TheVariants.{NoSuchWorker, HandFull, HandEmpty, RangeEmpty, TooShort, Own, NotAnswer, Ended, Stolen, RangeLeft}

-- the number of each fault
abbrev pub code_of : StepFault → ℕ
code_of NoSuchWorker = 1
code_of HandFull = 2
code_of HandEmpty = 3
code_of RangeEmpty = 4
code_of TooShort = 5
code_of Own = 6
code_of (NotAnswer word answer) = 7
code_of Ended = 8
code_of Stolen = 9
code_of RangeLeft = 10

-- whether no worker has this number
abbrev pub is_stranger : CoreState → ℕ → Bool
is_stranger core worker = nat_le (worker_count core) worker

-- what refuses each step, in order: a test, and the fault where it is true
abbrev pub checks : CoreState → Step → List (Bool × StepFault)
checks core (Claim by) =
    (is_stranger core by, NoSuchWorker)
    ∷ (has_ended core by, Ended)
    ∷ (nat_lt 0 (range_len (hand_at core by)), HandFull)
    ∷ (range_len (range_at core by) == 0, RangeEmpty)
    ∷ []
checks core (Steal by other) =
    (is_stranger core by || is_stranger core other, NoSuchWorker)
    ∷ (has_ended core by, Ended)
    ∷ (by == other, Own)
    ∷ (nat_lt 0 (range_len (hand_at core by)), HandFull)
    ∷ (nat_lt 0 (range_len (range_at core by)), RangeLeft)
    ∷ (nat_lt (range_len (range_at core other)) 2, TooShort)
    ∷ []
checks core (Keep by) =
    (is_stranger core by, NoSuchWorker)
    ∷ (has_ended core by, Ended)
    ∷ (range_len (hand_at core by) == 0, HandEmpty)
    ∷ (nat_lt (range_len (hand_at core by)) 2, TooShort)
    ∷ []
checks core (Settle by word) =
    (is_stranger core by, NoSuchWorker)
    ∷ (has_ended core by, Ended)
    ∷ (range_len (hand_at core by) == 0, HandEmpty)
    ∷ (nat_lt 1 (range_len (hand_at core by)), Stolen)
    ∷ (not (word == slice_index core.answers (hand_at core by).first), NotAnswer word (slice_index core.answers (hand_at core by).first))
    ∷ []
checks core (End by) =
    (is_stranger core by, NoSuchWorker)
    ∷ (has_ended core by, Ended)
    ∷ (nat_lt 0 (range_len (hand_at core by)), HandFull)
    ∷ (nat_lt 0 (range_len (range_at core by)), RangeLeft)
    ∷ []

-- the fault of the first test that is true
abbrev pub first_fault : List (Bool × StepFault) → Option StepFault
first_fault [] = None
first_fault (check ∷ others) = if check.0 then Some check.1 else first_fault others

-- why a step is refused, if it is
abbrev pub fault_of : CoreState → Step → Option StepFault
fault_of core step = first_fault (checks core step)

-- the core after a step that nothing refuses. What is not named stays
abbrev pub moved : CoreState → Step → CoreState
moved core (Claim by) = record core {
  ranges = slice_set core.ranges by (rest_of (range_at core by));
  hands = slice_set core.hands by (first_unit_of (range_at core by));
}
moved core (Steal by other) = record core {
  ranges = slice_set core.ranges other (lower_of (range_at core other));
  hands = slice_set core.hands by (upper_of (range_at core other));
}
moved core (Keep by) = record core {
  ranges = slice_set core.ranges by (rest_of (hand_at core by));
  hands = slice_set core.hands by (first_unit_of (hand_at core by));
}
moved core (Settle by word) = record core {
  hands = slice_set core.hands by no_units;
  board = slice_set core.board (hand_at core by).first word;
}
moved core (End by) = record core { ended = slice_set core.ended by true }

-- the one core where there is no fault, else the other
abbrev pub unless : Option StepFault → CoreState → CoreState → CoreState
unless None after before = after
unless (Some fault) after before = before

-- the core after a step, which is as before where the step is refused
abbrev pub stepped : CoreState → Step → CoreState
stepped core step = unless (fault_of core step) (moved core step) core

-- what a step answers
abbrev pub verdict : Option StepFault → Result (Unit {0}) StepFault
verdict None = Ok tt
verdict (Some fault) = Err fault
