-- What contracts say of one seat of a pool.
use Rattle.std.specs.Prelude.{◌≡◌, ℕ, ◌+◌, ◌<◌, true, false, List, [], length}
use Rattle.daa_range.specs.Range.{range_of}
use Rattle.daa_schedule.specs.CoreState.{no_units, opened, range_at}
use Rattle.daa_pool.specs.declared.view.View.{View}
use Rattle.daa_pool.specs.declared.seat.Seat.{Seat}
use Rattle.daa_pool.specs.declared.pool.Pool.{Pool}

-- what the seat knows
abbrev pub view : Seat → View
view seat = seat.seat.me.0

-- how many workers the pool has
abbrev pub workers_of : Pool → ℕ
workers_of pool = pool.workers

-- how many units of work the pool has
abbrev pub units_of : Pool → ℕ
units_of pool = pool.table.shared.key.units

-- the seat is one of this pool
pub record IsSeatOf (pool : Pool) (seat : Seat) : Type 0 where
  pub table : seat.seat.table_id ≡ pool.table.shared.table_id
  pub workers : (view seat).workers ≡ workers_of pool
  pub number : (view seat).number < workers_of pool
  pub units : length (view seat).answers ≡ units_of pool

-- the seat's number, its pool's workers and answers, what was joined to it, and the count of seats made: what no claim and no answer changes
pub record IsSameSeat (before after : View) : Type 0 where
  pub number : after.number ≡ before.number
  pub workers : after.workers ≡ before.workers
  pub answers : after.answers ≡ before.answers
  pub joined : after.joined ≡ before.joined
  pub carries : after.carries ≡ before.carries
  pub made : after.made ≡ before.made

-- the seat holds no piece and is not over
pub record IsFree (view : View) : Type 0 where
  pub hand : view.hand ≡ no_units
  pub going : view.over ≡ false

-- the seat holds the piece of this unit, and nothing else is in its hand
pub record HasPiece (view : View) (unit : ℕ) : Type 0 where
  pub hand : view.hand ≡ range_of unit (unit + 1)
  pub below : unit < length view.answers
  pub going : view.over ≡ false

-- the seat is over and holds no piece
pub record IsOver (view : View) : Type 0 where
  pub hand : view.hand ≡ no_units
  pub over : view.over ≡ true

-- a seat of a pool that has just been opened: it has done nothing, and shows what `Core::open` gives its worker
pub record IsOpening (view : View) (number workers : ℕ) (answers : List ℕ) : Type 0 where
  pub number_is : view.number ≡ number
  pub workers_are : view.workers ≡ workers
  pub answers_are : view.answers ≡ answers
  pub bound : view.bound ≡ range_at (opened answers workers) number
  pub free : IsFree view
  pub settled : view.settled ≡ []
  pub looks : view.looks ≡ []
  pub moves : view.moves ≡ []
  pub joined : view.joined ≡ []

-- the seat can work on these answers
pub record IsReady (pool : Pool) (seat : Seat) (answers : List ℕ) : Type 0 where
  pub of : IsSeatOf pool seat
  pub free : IsFree (view seat)
  pub answers_are : (view seat).answers ≡ answers

-- the seat can be gathered
pub record IsDone (pool : Pool) (seat : Seat) : Type 0 where
  pub of : IsSeatOf pool seat
  pub over : IsOver (view seat)
