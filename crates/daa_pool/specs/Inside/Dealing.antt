-- While a pool is opened: the seats that are made one after the other.
use Rattle.std.specs.Prelude.{◌≡◌, ℕ, ◌+◌, true, List}
use Rattle.daa_pool.specs.declared.view.View.{View}
use Rattle.daa_pool.specs.Seat.{IsOpening}

-- the seat that was made last, which has the count of seats made
pub record IsLast (view : View) (number workers : ℕ) (answers : List ℕ) : Type 0 where
  pub opening : IsOpening view number workers answers
  pub carries : view.carries ≡ true
  pub made : view.made ≡ number + 1
