-- Within one call of `claim`: the round through the other workers.
use Rattle.std.specs.Prelude.{◌≡◌, ◌≢◌, ℕ, ◌*◌, ◌<◌, ◌≤◌, List, []}
use Rattle.std.specs.List.{AllPairs, Contains}
use Rattle.daa_range.specs.Range.{range_of, range_len, times_in}
use Rattle.daa_schedule.specs.declared.step.Step.{Step}
use Rattle.daa_pool.specs.declared.view.View.{View}
use Rattle.daa_pool.specs.declared.view.Look.{Look}
use Rattle.daa_pool.specs.Seat.{IsFree, HasPiece}
use Rattle.daa_pool.specs.Claim.{IsLater, IsTaking, AreFresh, IsBare, looks_at, Claims, FindsNothing}

-- the seat goes on to other ranges: it is free, and its own range is empty, as the last look showed
pub record IsSeeking (view : View) : Type 0 where
  pub free : IsFree view
  pub bare : range_len view.bound ≡ 0

-- the looks are at workers from `first` on, below `upto`, one after the other
pub record InTurn (first upto : ℕ) (seen : List Look) : Type 0 where
  pub inside : (look : Look) → Contains seen look → (first ≤ look.worker) × (look.worker < upto)
  pub rising : AllPairs (λ look next. look.worker ≤ next.worker) seen

-- on a round through the workers from `first` on, below `upto`, the piece of a unit was taken: each was looked at, at most twice, and nobody else was
pub record TakesFrom (before after : View) (first upto : ℕ) (unit : ℕ) : Type 0 where
  pub seen : List Look
  pub steps : List Step
  pub later : IsLater before after seen steps
  pub taking : IsTaking before.number steps
  pub piece : HasPiece after unit
  pub brief : (other : ℕ) → looks_at other seen ≤ 2 * times_in other (range_of first upto)
  pub turn : InTurn first upto seen

-- the workers from `first` on, below `upto`, have nothing to take: each was looked at, at most twice, and nobody else was
pub record Toured (before after : View) (first upto : ℕ) : Type 0 where
  pub seen : List Look
  pub later : IsLater before after seen []
  pub fresh : AreFresh before seen
  pub seeking : IsSeeking after
  pub bare : (other : ℕ) → first ≤ other → other < upto → IsBare seen other
  pub brief : (other : ℕ) → looks_at other seen ≤ 2 * times_in other (range_of first upto)
  pub turn : InTurn first upto seen

-- none of the looks is at the worker's range
abbrev pub AreElsewhere : ℕ → List Look → Type 0
AreElsewhere worker seen = (look : Look) → Contains seen look → look.worker ≢ worker

-- the round took a unit, without a look at the own range
pub record SeeksWell (before after : View) (unit : ℕ) : Type 0 where
  pub claim : Claims before after unit
  pub away : AreElsewhere before.number (claim.seen)

-- the round found nothing, without a look at the own range but that of the End
pub record SeeksInVain (before after : View) : Type 0 where
  pub claim : FindsNothing before after
  pub away : AreElsewhere before.number (claim.shorter.early)
