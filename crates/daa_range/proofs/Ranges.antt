-- Ranges cut in two, and their units counted.
use Rattle.std.proofs.Common.{◌≡◌, ℕ, zero, suc, ◌+◌, ◌-◌, ◌<◌, ◌≤◌, min, arith}
use Rattle.std.proofs.lemmas.Bool.Decides.{nat_tests}
use Rattle.daa_range.specs.Range.{RangeState, range_of, range_len, IsOrdered, times_in, times_below}

-- a range that is cut at any place
pub times_in_cut : (unit first middle upto : ℕ) → first ≤ middle → middle ≤ upto
    → times_in unit (range_of first upto) ≡ times_in unit (range_of first middle) + times_in unit (range_of middle upto)
times_in_cut unit first middle upto a b = grind (arith, nat_tests)

-- a range without units, the first unit and the rest, and a unit inside
pub times_in_none : (u : ℕ) (r : RangeState) → IsOrdered r → range_len r ≡ 0 → times_in u r ≡ 0
times_in_none u r o e = grind (arith, nat_tests)

pub times_in_first : (u : ℕ) (r : RangeState) → 0 < range_len r → times_in u r ≡ times_in u (range_of r.first (r.first + 1)) + times_in u (range_of (r.first + 1) r.upto)
times_in_first u r h = times_in_cut u r.first (r.first + 1) r.upto (omega arith) (omega arith)

pub times_in_inside : (u : ℕ) (r : RangeState) → r.first ≤ u → u < r.upto → times_in u r ≡ 1
times_in_inside u r a b = grind (arith, nat_tests)

-- one unit more
counted_step : (unit : ℕ) (range : RangeState) → IsOrdered range → (min unit range.upto - range.first) + times_in unit range ≡ min (suc unit) range.upto - range.first
counted_step unit range order = grind (arith, nat_tests)

counted : (most : ℕ) (range : RangeState) → IsOrdered range → times_below most range ≡ min most range.upto - range.first
counted zero range order = omega arith
counted (suc unit) range order = let a = counted unit range order in let b = counted_step unit range order in omega arith

pub times_below_all : (range : RangeState) (most : ℕ) → IsOrdered range → range.upto ≤ most → times_below most range ≡ range_len range
times_below_all range most order h = let a = counted most range order in omega arith
