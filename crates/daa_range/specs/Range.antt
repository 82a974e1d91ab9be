-- A range of units as plain data, and how it is cut.
use Rattle.std.specs.Prelude.{ℕ, zero, suc, ◌+◌, ◌-◌, ◌/◌, ◌≤◌, nat_le, nat_lt, ◌&&◌, if◌then◌else◌}

-- the units from `first` on, below `upto`
pub record RangeState : Type 0 where
  pub first : ℕ
  pub upto : ℕ

-- the range of the units from one number on, below another
abbrev pub range_of : ℕ → ℕ → RangeState
range_of first upto = record { first = first; upto = upto }

-- the range does not end before it begins
abbrev pub IsOrdered : RangeState → Type 0
IsOrdered range = range.first ≤ range.upto

-- how many units the range has
abbrev pub range_len : RangeState → ℕ
range_len range = range.upto - range.first

-- how often the unit is in the range: once or not at all
abbrev pub times_in : ℕ → RangeState → ℕ
times_in unit range = if nat_le range.first unit && nat_lt unit range.upto then 1 else 0

-- how many of the units below a number are in the range
abbrev pub times_below : ℕ → RangeState → ℕ
times_below zero range = 0
times_below (suc unit) range = times_below unit range + times_in unit range

-- the first unit of the upper half, which has half of the units, cut toward zero
abbrev pub middle_of : RangeState → ℕ
middle_of range = range.upto - range_len range / 2

-- the lower half of a range
abbrev pub lower_of : RangeState → RangeState
lower_of range = range_of range.first (middle_of range)

-- the upper half of a range
abbrev pub upper_of : RangeState → RangeState
upper_of range = range_of (middle_of range) range.upto

-- the range of the first unit alone
abbrev pub first_unit_of : RangeState → RangeState
first_unit_of range = range_of range.first (range.first + 1)

-- all but the first unit
abbrev pub rest_of : RangeState → RangeState
rest_of range = range_of (range.first + 1) range.upto
