-- What contracts say of all seats of a pool.
use Rattle.std.specs.Prelude.{◌≡◌, ℕ, ◌<◌, List, length, slice_index_or}
use Rattle.std.specs.List.{All, Contains}
use Rattle.daa_pool.specs.declared.view.Part.{Part}
use Rattle.daa_pool.specs.declared.seat.Seat.{Seat}
use Rattle.daa_pool.specs.declared.pool.Pool.{Pool}
use Rattle.daa_pool.specs.View.{part_of}
use Rattle.daa_pool.specs.Seat.{view, workers_of, IsSeatOf, IsOpening}

-- the first `count` seats of a pool that has just been opened, numbered from 0
pub record AreOpening (pool : Pool) (seats : List Seat) (count : ℕ) (answers : List ℕ) : Type 0 where
  pub count_is : length seats ≡ count
  pub each : (number : ℕ) (default : Seat) → number < length seats → IsSeatOf pool (slice_index_or seats number default)
      × IsOpening (view (slice_index_or seats number default)) number (workers_of pool) answers

-- every number below the workers is that of one of the seats
abbrev pub AreAll : ℕ → List Seat → Type 0
AreAll workers seats = (number : ℕ) → number < workers → (seat : Seat) × Contains seats seat × ((view seat).number ≡ number)

-- the seats are of a pool with these answers
abbrev pub HaveAnswers : List ℕ → List Seat → Type 0
HaveAnswers answers seats = All (λ seat. (view seat).answers ≡ answers) seats

-- the part is that of one of the seats
abbrev pub HasPartOf : List Seat → Part → Type 0
HasPartOf seats part = (seat : Seat) × Contains seats seat × (part_of (view seat) ≡ part)
