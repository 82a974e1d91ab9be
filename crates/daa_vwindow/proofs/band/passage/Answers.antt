use Rattle.std.proofs.Common.{◌≡◌, ℕ, ℤ, pos, neg_ℤ, ◌-ℤ◌, ◌*ℤ◌, arith, w64, to_z, of_z, to_z-of_z, FitsSigned}
use Rattle.std.specs.Int.{int_max, int_min}
use Rattle.std.proofs.lemmas.Int.{ints}
use Rattle.daa_vwindow.proofs.Bands.{IsMax, IsMin, ends_are, max_is, min_is, window, never}
use Rattle.daa_vwindow.proofs.band.passage.Goals as goal

-- what the two calls answered, of the numbers themselves
first_is : (f low h : ℤ) → FitsSigned w64 low → FitsSigned w64 h → f ≡ int_max (neg_ℤ (to_z w64 (of_z w64 low)) -ℤ to_z w64 (of_z w64 h)) (pos 0) → IsMax f (neg_ℤ low -ℤ h) (pos 0)
first_is f low h low_fits h_fits e = max_is (neg_ℤ low -ℤ h) (pos 0) (simp to_z-of_z at e)

last_is : (secs : ℕ) (l high h a : ℤ) → FitsSigned w64 high → FitsSigned w64 h → FitsSigned w64 a
    → l ≡ int_min (to_z w64 (of_z w64 high) -ℤ to_z w64 (of_z w64 h)) (pos secs *ℤ to_z w64 (of_z w64 a))
    → IsMin l (high -ℤ h) (pos secs *ℤ a)
last_is secs l high h a high_fits h_fits a_fits e = min_is (high -ℤ h) (pos secs *ℤ a) (simp to_z-of_z at e)

pub invariant_of-begin : goal.invariant_of-begin
invariant_of-begin c =
    let f = first_is _ c.args.low c.args.height c.ranges.low c.ranges.height c.first_within-first.ensures in
    let l = last_is c.args.secs _ c.args.high c.args.height c.args.speed c.ranges.high c.ranges.height c.ranges.speed c.last_within-last.ensures in
    let e = ends_are c.args.secs c.args.height c.args.speed c.args.low c.args.high _ _ c.requires.secs c.requires.rises c.requires.speed f l (omega (arith, ints)) in
    record {
      not_negative = omega (arith, ints, e.begun);
      num_bound = omega (arith, ints, e.in_order, e.ended);
      positive = omega (arith, ints);
      den_bound = omega (arith, ints);
    }

pub invariant_of-end : goal.invariant_of-end
invariant_of-end c =
    let f = first_is _ c.args.low c.args.height c.ranges.low c.ranges.height c.first_within-first.ensures in
    let l = last_is c.args.secs _ c.args.high c.args.height c.args.speed c.ranges.high c.ranges.height c.ranges.speed c.last_within-last.ensures in
    let e = ends_are c.args.secs c.args.height c.args.speed c.args.low c.args.high _ _ c.requires.secs c.requires.rises c.requires.speed f l (omega (arith, ints)) in
    record {
      not_negative = omega (arith, ints, e.begun, e.in_order);
      num_bound = omega (arith, ints, e.ended);
      positive = omega (arith, ints);
      den_bound = omega (arith, ints);
    }

pub returns-then-first-last-clause-times : goal.returns-then-first-last-clause-times
returns-then-first-last-clause-times c =
    let f = first_is _ c.args.low c.args.height c.ranges.low c.ranges.height c.first_within-first.ensures in
    let l = last_is c.args.secs _ c.args.high c.args.height c.args.speed c.ranges.high c.ranges.height c.ranges.speed c.last_within-last.ensures in
    let first : to_z w64 (of_z w64 c.first_within-first.result) ≡ c.first_within-first.result = omega (arith, ints) in
    let last : to_z w64 (of_z w64 c.last_within-last.result) ≡ c.last_within-last.result = omega (arith, ints) in
    let speed : to_z w64 (of_z w64 c.args.speed) ≡ c.args.speed = to_z-of_z c.ranges.speed in
    window c.args.secs c.args.height c.args.speed c.args.low c.args.high _ _ c.requires.rises f l _ _ first speed last speed (omega (arith, ints))

pub returns-then-first-last-clause-small : goal.returns-then-first-last-clause-small
returns-then-first-last-clause-small c =
    let f = first_is _ c.args.low c.args.height c.ranges.low c.ranges.height c.first_within-first.ensures in
    let l = last_is c.args.secs _ c.args.high c.args.height c.args.speed c.ranges.high c.ranges.height c.ranges.speed c.last_within-last.ensures in
    let e = ends_are c.args.secs c.args.height c.args.speed c.args.low c.args.high _ _ c.requires.secs c.requires.rises c.requires.speed f l (omega (arith, ints)) in
    (record { num = omega (arith, ints, e.in_order, e.ended); den = omega (arith, ints) }, record { num = omega (arith, ints, e.ended); den = omega (arith, ints) })

pub returns-else-first-last-clause-times : goal.returns-else-first-last-clause-times
returns-else-first-last-clause-times c =
    let f = first_is _ c.args.low c.args.height c.ranges.low c.ranges.height c.first_within-first.ensures in
    let l = last_is c.args.secs _ c.args.high c.args.height c.args.speed c.ranges.high c.ranges.height c.ranges.speed c.last_within-last.ensures in
    never c.args.secs c.args.height c.args.speed c.args.low c.args.high _ _ c.requires.rises f l (omega (arith, ints))
