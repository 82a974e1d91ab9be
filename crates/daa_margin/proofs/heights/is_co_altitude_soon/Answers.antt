use Rattle.daa_fixed.proofs.PointSizes.{IsPointInRange}
use Rattle.std.proofs.Common.{rules}
use Rattle.daa_margin.proofs.Within.{level_is}
use Rattle.daa_margin.proofs.heights.is_co_altitude_soon.Goals as goal

pub returns : goal.returns
returns c =
    let t : IsPointInRange c.args.point.now = search rules in
    let test = rw (c.at.ensures.num, c.at.ensures.den, c.after.ensures.num, c.after.ensures.den) at c.comes_level.ensures in
    let same = level_is c.args.leg.now c.args.volume.now c.args.bounds.now c.args.point.now.num c.args.point.now.den t.n0 t.d0 in
    ((λ k. same.0 (test.0 k)), (λ h. test.1 (same.1 h)))
