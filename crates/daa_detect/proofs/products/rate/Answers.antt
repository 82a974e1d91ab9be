use Rattle.std.proofs.Common.{rules, lit<, w64}
use Rattle.daa_fixed.specs.Leg.{IsLegInRange}
use Rattle.daa_fixed.proofs.Bounds.{fits}
use Rattle.daa_fixed.proofs.LegSizes as size
use Rattle.daa_detect.proofs.Sizes.{of_leg}
use Rattle.daa_detect.proofs.products.rate.Goals as goal

pub overflow_add-result : goal.overflow_add-result
overflow_add-result c =
    let r : IsLegInRange c.args.leg.now = search rules in
    simp of_leg (fits w64 (size.sv r) (lit< tt))

pub returns : goal.returns
returns c =
    let r : IsLegInRange c.args.leg.now = search rules in
    simp of_leg
