use Rattle.std.proofs.Common.{lit<, rules, w64, to_z-of_z}
use Rattle.daa_fixed.proofs.Bounds.{times, fits}
use Rattle.daa_fixed.proofs.LegSizes.{natural}
use Rattle.daa_fixed.proofs.PointSizes.{IsPointInRange}
use Rattle.daa_detect.proofs.Sizes as size
use Rattle.daa_detect.proofs.Sizes.{IsMotionInRange, of_motion, secs_kept}
use Rattle.daa_detect.proofs.horizontal.rate_gain.Goals as goal

pub overflow_mul-result-2 : goal.overflow_mul-result-2
overflow_mul-result-2 c =
    let s : IsMotionInRange c.args.motion.now = search rules in
    let t : IsPointInRange c.args.point.now = search rules in
    let u = size.small t c.requires.small in
    let e = secs_kept c.args.secs c.requires.secs in
    let f = fits w64 (times (natural 120 c.args.secs c.requires.secs) u.den) (lit< tt) in
    simp (e, of_motion, to_z-of_z) (fits w64 (size.gain s u c.requires.secs) (lit< tt))

pub returns : goal.returns
returns c =
    let s : IsMotionInRange c.args.motion.now = search rules in
    let t : IsPointInRange c.args.point.now = search rules in
    let u = size.small t c.requires.small in
    let e = secs_kept c.args.secs c.requires.secs in
    let f = fits w64 (times (natural 120 c.args.secs c.requires.secs) u.den) (lit< tt) in
    let g = fits w64 (size.gain s u c.requires.secs) (lit< tt) in
    simp (e, of_motion, to_z-of_z)
