-- A core of the schedule as plain data: where each unit is, that no unit is lost or doubled, and how much is left to do.
use Rattle.std.specs.Prelude.{◌≡◌, ◌≢◌, ℕ, ◌+◌, ◌-◌, ◌*◌, ◌<◌, Bool, true, false, ◌==◌, nat_lt, List, ◌∷◌, length, slice_index, slice_index_or, replicate, if◌then◌else◌}
use Rattle.std.specs.List.{sum_by}
use Rattle.daa_range.specs.Range.{RangeState, range_of, range_len, IsOrdered, times_in}

-- for each worker a range, a hand, which is a range too, and whether it has ended;
-- for each unit its answer, and the word on the board, 0 if there is none
pub record CoreState : Type 0 where
  pub answers : List ℕ
  pub ranges : List RangeState
  pub hands : List RangeState
  pub ended : List Bool
  pub board : List ℕ

-- how many workers there are
abbrev pub worker_count : CoreState → ℕ
worker_count core = length core.ranges

-- how many units of work there are
abbrev pub unit_count : CoreState → ℕ
unit_count core = length core.answers

-- a range, or a hand, without units
abbrev pub no_units : RangeState
no_units = range_of 0 0

-- the range of a worker
abbrev pub range_at : CoreState → ℕ → RangeState
range_at core worker = slice_index_or core.ranges worker no_units

-- what a worker has in hand
abbrev pub hand_at : CoreState → ℕ → RangeState
hand_at core worker = slice_index_or core.hands worker no_units

-- whether a worker has ended
abbrev pub has_ended : CoreState → ℕ → Bool
has_ended core worker = slice_index_or core.ended worker false

-- the word of a unit on the board, or 0
abbrev pub word_on : CoreState → ℕ → ℕ
word_on core unit = slice_index core.board unit

-- worker 0 has the range of all units, every other range and every hand is empty, nobody has ended, and nothing is on the board
abbrev pub opened : List ℕ → ℕ → CoreState
opened answers workers = record {
  answers = answers;
  ranges = range_of 0 (length answers) ∷ replicate (workers - 1) no_units;
  hands = replicate workers no_units;
  ended = replicate workers false;
  board = replicate (length answers) 0;
}

-- how often the unit is on the board: once or not at all
abbrev pub times_on : ℕ → List ℕ → ℕ
times_on unit board = if slice_index board unit == 0 then 0 else 1

-- how often the unit is in a range, in a hand or on the board
abbrev pub times_held : ℕ → CoreState → ℕ
times_held unit core = sum_by (times_in unit) core.ranges + sum_by (times_in unit) core.hands + times_on unit core.board

-- 1 for a number below the bound, else 0
abbrev pub once_below : ℕ → ℕ → ℕ
once_below unit bound = if nat_lt unit bound then 1 else 0

-- what holds of one worker: beside a hand of more than one unit the own range is empty, and a worker that has ended has no unit
pub record IsSoundWorker (range hand : RangeState) (over : Bool) : Type 0 where
  pub range_order : IsOrdered range
  pub hand_order : IsOrdered hand
  pub stolen : 1 < range_len hand → range_len range ≡ 0
  pub ended : over ≡ true → (range_len hand ≡ 0) × (range_len range ≡ 0)

-- each unit, and no other number, is exactly once in a range, in a hand or on the board, and each word on the board is its unit's answer
pub record IsWhole (core : CoreState) : Type 0 where
  pub once : (unit : ℕ) → times_held unit core ≡ once_below unit (unit_count core)
  pub answered : (unit : ℕ) → word_on core unit ≢ 0 → word_on core unit ≡ slice_index core.answers unit
  pub workers : (worker : ℕ) → IsSoundWorker (range_at core worker) (hand_at core worker) (has_ended core worker)

-- what is left of a hand: 1 for one unit, 3m - 1 for m units where m is greater
abbrev pub hand_left : ℕ → ℕ
hand_left units = if nat_lt 1 units then 3 * units - 1 else units

-- what is left of a core: 3 for each unit in a range, and what is left of each hand
abbrev pub left_of : CoreState → ℕ
left_of core = 3 * sum_by range_len core.ranges + sum_by (λ hand. hand_left (range_len hand)) core.hands
