use Rattle.std.proofs.Common.{◌≡◌, ◌^◌, pos, ◌+ℤ◌, ◌*ℤ◌, ◌≤ℤ◌, lit<, rules, w64, to_z-of_z, refl, arith}
use Rattle.std.proofs.lemmas.Int.{ints}
use Rattle.daa_fixed.proofs.Bounds.{times, plus, fits}
use Rattle.daa_fixed.proofs.Integers.{sum_nonneg}
use Rattle.daa_fixed.proofs.Ring.{mul_nonneg}
use Rattle.daa_fixed.proofs.LegSizes.{natural}
use Rattle.daa_fixed.proofs.PointSizes as size
use Rattle.daa_fixed.proofs.PointSizes.{IsPointInRange}
use Rattle.daa_margin.proofs.MomentSizes.{small_kept}
use Rattle.daa_margin.proofs.moment.after.Goals as goal

pub invariant_of-result : goal.invariant_of-result
invariant_of-result c =
    let t : IsPointInRange c.args.point.now = search rules in
    let e = small_kept c.args.secs (omega (arith, c.requires)) in
    let wait = times (natural 120 c.args.secs c.requires) (size.d t) in
    let sum = plus (size.n t) wait in
    let f1 = fits w64 (size.d t) (lit< tt) in
    let f2 = fits w64 (size.n t) (lit< tt) in
    let f3 = fits w64 wait (lit< tt) in
    let f4 = fits w64 sum (lit< tt) in
    let some : pos 0 ≤ℤ (c.args.point.now.num +ℤ pos c.args.secs *ℤ c.args.point.now.den) =
    sum_nonneg _ _ t.n0 (mul_nonneg (pos c.args.secs) _ (omega (arith, ints)) (omega (arith, ints, t.d0))) in
    simp (e, to_z-of_z) (record {
      not_negative = some;
      num_bound = omega (arith, ints, sum.size);
      positive = t.d0;
      den_bound = t.d1;
    })

pub returns-clause-num : goal.returns-clause-num
returns-clause-num c =
    let t : IsPointInRange c.args.point.now = search rules in
    let e = small_kept c.args.secs (omega (arith, c.requires)) in
    let wait = times (natural 120 c.args.secs c.requires) (size.d t) in
    let sum = plus (size.n t) wait in
    let f1 = fits w64 (size.d t) (lit< tt) in
    let f2 = fits w64 (size.n t) (lit< tt) in
    let f3 = fits w64 wait (lit< tt) in
    let f4 = fits w64 sum (lit< tt) in
    simp (e, to_z-of_z)
