use Rattle.std.proofs.Common.{rules, lit<}
use Rattle.daa_fixed.proofs.Bounds.{fits}
use Rattle.daa_quad.proofs.Sizes as size
use Rattle.daa_quad.proofs.Sizes.{IsQuadInRange, kept}
use Rattle.daa_fixed.proofs.PointSizes.{IsPointInRange}
use Rattle.daa_quad.proofs.least.slope_at.Goals as goal
use mir.Syntax.{w128}

pub overflow_add-result : goal.overflow_add-result
overflow_add-result c =
    let s : IsQuadInRange c.args.q.now = search rules in
    let t : IsPointInRange c.args.at.now = search rules in
    simp kept (fits w128 (size.fall s t) (lit< tt))

pub returns : goal.returns
returns c =
    let s : IsQuadInRange c.args.q.now = search rules in
    let t : IsPointInRange c.args.at.now = search rules in
    simp kept
