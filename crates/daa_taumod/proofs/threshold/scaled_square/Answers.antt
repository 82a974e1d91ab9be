use Rattle.std.proofs.Common.{lit<, rules, to_z-of_z, ◌*◌, ◌^◌, ap}
use mir.Syntax.{w128}
use Rattle.daa_fixed.specs.Size.{IsWithin}
use Rattle.daa_fixed.specs.Flat.{square_of}
use Rattle.daa_fixed.proofs.Bounds.{times, fits, as_within}
use Rattle.daa_fixed.proofs.LegSizes.{natural}
use Rattle.daa_fixed.proofs.PointSizes as size
use Rattle.daa_fixed.proofs.PointSizes.{IsPointInRange}
use Rattle.daa_taumod.proofs.threshold.scaled_square.Goals as goal

pub overflow_mul-result : goal.overflow_mul-result
overflow_mul-result c =
    let t : IsPointInRange c.args.point.now = search rules in
    let s : IsWithin (360000 * 2 ^ 33) c.scaled_threshold-size.result = as_within c.scaled_threshold-size.ensures (times (natural 360000 c.args.threshold c.requires) (size.d t)) in
    let f1 = fits w128 s (lit< tt) in
    simp to_z-of_z (fits w128 (times s s) (lit< tt))

pub returns : goal.returns
returns c =
    let t : IsPointInRange c.args.point.now = search rules in
    let s : IsWithin (360000 * 2 ^ 33) c.scaled_threshold-size.result = as_within c.scaled_threshold-size.ensures (times (natural 360000 c.args.threshold c.requires) (size.d t)) in
    let f1 = fits w128 s (lit< tt) in
    let f2 = fits w128 (times s s) (lit< tt) in
    simp to_z-of_z (ap square_of c.scaled_threshold-size.ensures)
