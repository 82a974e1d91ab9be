use Rattle.std.proofs.Common.{rules, lit<, w64}
use Rattle.daa_fixed.proofs.Bounds.{fits}
use Rattle.daa_fixed.proofs.PointSizes.{IsPointInRange}
use Rattle.daa_detect.proofs.Sizes as size
use Rattle.daa_detect.proofs.Sizes.{IsMotionInRange, of_motion}
use Rattle.daa_detect.proofs.horizontal.rate_at.Goals as goal

pub overflow_add-result : goal.overflow_add-result
overflow_add-result c =
    let s : IsMotionInRange c.args.motion.now = search rules in
    let t : IsPointInRange c.args.point.now = search rules in
    let u = size.small t c.requires in
    simp of_motion (fits w64 (size.rate s u) (lit< tt))

pub returns : goal.returns
returns c =
    let s : IsMotionInRange c.args.motion.now = search rules in
    let t : IsPointInRange c.args.point.now = search rules in
    let u = size.small t c.requires in
    simp of_motion
