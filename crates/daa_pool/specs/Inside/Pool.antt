-- What loops over the seats of a pool keep.
use Rattle.std.specs.Prelude.{ℕ, ◌<◌, List, length, slice_index_or}
use Rattle.std.specs.List.{All}
use Rattle.daa_pool.specs.declared.seat.Seat.{Seat}
use Rattle.daa_pool.specs.declared.pool.Pool.{Pool}
use Rattle.daa_pool.specs.Seat.{view, IsSameSeat, IsReady, IsDone}
use Rattle.daa_pool.specs.Work.{SettlesMore, GivesUp}

-- the seat worked until a claim found nothing, and is over
pub record IsWorked (pool : Pool) (before after : Seat) : Type 0 where
  pub done : IsDone pool after
  pub same_seat : IsSameSeat (view before) (view after)
  pub settles : SettlesMore (view before) (view after)
  pub gives_up : GivesUp (view before) (view after)

-- all seats can work on these answers
abbrev pub AllReady : Pool → List Seat → List ℕ → Type 0
AllReady pool seats answers = All (λ seat. IsReady pool seat answers) seats

-- each seat worked until it was over
abbrev pub AllWorked : Pool → List Seat → List Seat → Type 0
AllWorked pool before after = (index : ℕ) (default : Seat) → index < length before → IsWorked pool (slice_index_or before index default) (slice_index_or after index default)
