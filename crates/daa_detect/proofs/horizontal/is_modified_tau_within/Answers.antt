use Rattle.std.proofs.Common.{FitsSigned, lit<, rules, to_z-of_z, refl}
use mir.Syntax.{w128}
use Rattle.daa_fixed.proofs.Bounds.{times, fits, le_test}
use Rattle.daa_fixed.proofs.PointSizes.{IsPointInRange}
use Rattle.daa_detect.proofs.Sizes as size
use Rattle.daa_detect.proofs.Sizes.{IsMotionInRange, of_motion}
use Rattle.daa_detect.proofs.horizontal.is_modified_tau_within.Goals as goal

pub overflow_mul-result-2 : goal.overflow_mul-result-2
overflow_mul-result-2 c =
    let s : IsMotionInRange c.args.motion.now = search rules in
    let t : IsPointInRange c.args.point.now = search rules in
    let u = size.small t c.requires.small in
    simp of_motion (fits w128 (times (times u.den u.den) s.margin) (lit< tt))

pub returns : goal.returns
returns c =
    let s : IsMotionInRange c.args.motion.now = search rules in
    let t : IsPointInRange c.args.point.now = search rules in
    let u = size.small t c.requires.small in
    let f : FitsSigned w128 c.rate_product.result = search rules in
    simp (to_z-of_z, of_motion) (le_test _ _ _ _ c.rate_product.ensures refl)
