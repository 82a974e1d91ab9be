-- What one call of `claim` does: it takes a unit, or it shows why there is none to take.
use Rattle.std.specs.Prelude.{◌≡◌, ◌≢◌, ℕ, ◌+◌, ◌-◌, ◌<◌, ◌≤◌, ◌==◌, nat_lt, List, [], ◌∷◌, ◌++◌, length, ◌⊎◌, if◌then◌else◌}
use Rattle.std.specs.List.{AllPairs, Contains, sum_by}
use Rattle.daa_range.specs.Range.{range_len}
use Rattle.daa_range.specs.Word.{unpacked}
use Rattle.daa_schedule.specs.declared.step.Step.{Step}
use Rattle.daa_schedule.specs.declared.step.Step.TheVariants.{Claim, Steal, Keep, End}
use Rattle.daa_pool.specs.declared.view.View.{View}
use Rattle.daa_pool.specs.declared.view.Look.{Look}
use Rattle.daa_pool.specs.Seat.{IsSameSeat, HasPiece, IsOver}

-- from the one view to the other these looks and these steps of the core were made, and nothing was settled
pub record IsLater (before after : View) (seen : List Look) (steps : List Step) : Type 0 where
  pub same_seat : IsSameSeat before after
  pub settled : after.settled ≡ before.settled
  pub looks : after.looks ≡ before.looks ++ seen
  pub moves : after.moves ≡ before.moves ++ steps

-- when these looks were made, the seat had made the steps that it shows here, and no more
abbrev pub AreFresh : View → List Look → Type 0
AreFresh view seen = (look : Look) → Contains seen look → look.moves ≡ length view.moves

-- a look found the worker's range empty
abbrev pub SawEmpty : List Look → ℕ → Type 0
SawEmpty seen worker = (look : Look) × Contains seen look × (look.worker ≡ worker) × (range_len (unpacked look.word) ≡ 0)

-- a look found fewer than two units in the worker's range
abbrev pub SawShort : List Look → ℕ → Type 0
SawShort seen worker = (look : Look) × Contains seen look × (look.worker ≡ worker) × (range_len (unpacked look.word) < 2)

-- two looks at the worker's range differ
abbrev pub SawChange : List Look → ℕ → Type 0
SawChange seen worker = (look again : Look) × Contains seen look × Contains seen again × (look.worker ≡ worker) × (again.worker ≡ worker) × (look.word ≢ again.word)

-- why nothing was taken from a worker: its range was too short, or it changed under the try
abbrev pub IsBare : List Look → ℕ → Type 0
IsBare seen worker = SawShort seen worker ⊎ SawChange seen worker

-- how many of the looks are at the worker's range
abbrev pub looks_at : ℕ → List Look → ℕ
looks_at worker seen = sum_by (λ look. if look.worker == worker then 1 else 0) seen

-- at each other worker's range there were at most two looks
abbrev pub IsBrief : ℕ → List Look → Type 0
IsBrief number seen = (other : ℕ) → other ≢ number → looks_at other seen ≤ 2

-- how far on from the seat's own number a worker is, going round
abbrev pub way_to : ℕ → ℕ → ℕ → ℕ
way_to number workers worker = if nat_lt number worker then worker - number else worker + workers - number

-- the looks at other workers were made from the next number round
abbrev pub GoesRound : ℕ → ℕ → List Look → Type 0
GoesRound number workers seen = AllPairs (λ look next. look.worker ≢ number → next.worker ≢ number → way_to number workers look.worker ≤ way_to number workers next.worker) seen

-- of two looks at the worker's range the later one found fewer units
abbrev pub GetsShorter : ℕ → List Look → Type 0
GetsShorter worker seen = AllPairs (λ look next. look.worker ≡ worker → next.worker ≡ worker → range_len (unpacked next.word) < range_len (unpacked look.word)) seen

-- the last look is at the worker's range and found it empty, and of two looks at it before that the later one found fewer units
pub record EndsShort (worker : ℕ) (seen : List Look) : Type 0 where
  pub early : List Look
  pub last : Look
  pub all : seen ≡ early ++ last ∷ []
  pub own : last.worker ≡ worker
  pub bare : range_len (unpacked last.word) ≡ 0
  pub shorter : GetsShorter worker early

-- how a unit comes to the hand: by Claim, by Steal, or by Steal and Keep
abbrev pub IsTaking : ℕ → List Step → Type 0
IsTaking number steps =
    (steps ≡ Claim number ∷ [])
    ⊎ ((other : ℕ) × (steps ≡ Steal number other ∷ []))
    ⊎ ((other : ℕ) × (steps ≡ Steal number other ∷ Keep number ∷ []))

-- a call that gives the piece of a unit: of its looks at the own range each found fewer units than the one before
pub record Claims (before after : View) (unit : ℕ) : Type 0 where
  pub seen : List Look
  pub steps : List Step
  pub later : IsLater before after seen steps
  pub taking : IsTaking before.number steps
  pub piece : HasPiece after unit
  pub shorter : GetsShorter before.number seen
  pub brief : IsBrief before.number seen
  pub round : GoesRound before.number before.workers seen

-- a call that gives none: it saw the own range empty and each other range short or changing, each as it was after the
-- last step that the worker made before the call, and it ends the worker, which has settled no more units than there
-- are
pub record FindsNothing (before after : View) : Type 0 where
  pub seen : List Look
  pub later : IsLater before after seen (End before.number ∷ [])
  pub fresh : AreFresh before seen
  pub over : IsOver after
  pub empty : SawEmpty seen before.number
  pub others : (other : ℕ) → other < before.workers → other ≢ before.number → IsBare seen other
  pub shorter : EndsShort before.number seen
  pub brief : IsBrief before.number seen
  pub round : GoesRound before.number before.workers seen
  pub few : length after.settled ≤ length after.answers
