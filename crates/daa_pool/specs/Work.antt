-- What one call of `work` does: it claims and settles until a claim finds nothing.
use Rattle.std.specs.Prelude.{◌≡◌, ℕ, ◌≤◌, List, ◌++◌, length}
use Rattle.daa_schedule.specs.declared.step.Step.{Step}
use Rattle.daa_pool.specs.declared.view.View.{View}
use Rattle.daa_pool.specs.declared.view.Look.{Look}
use Rattle.daa_pool.specs.Seat.{IsSameSeat}
use Rattle.daa_pool.specs.Claim.{FindsNothing}

-- what a seat settled while it worked comes after what it had settled, and is no more than there are units
pub record SettlesMore (before after : View) : Type 0 where
  pub more : List ℕ
  pub settled : after.settled ≡ before.settled ++ more
  pub few : length after.settled ≤ length after.answers

-- the seat went on: what it settled, saw and did comes after what it had
pub record GoesOn (before after : View) : Type 0 where
  pub same_seat : IsSameSeat before after
  pub settled : (more : List ℕ) × (after.settled ≡ before.settled ++ more)
  pub looks : (seen : List Look) × (after.looks ≡ before.looks ++ seen)
  pub moves : (steps : List Step) × (after.moves ≡ before.moves ++ steps)

-- the seat went on until a claim found nothing
pub record GivesUp (before after : View) : Type 0 where
  pub last : View
  pub until : GoesOn before last
  pub nothing : FindsNothing last after
