use Rattle.std.proofs.Common.{rules, lit<, w64, to_z-of_z}
use mir.Syntax.{w128}
use Rattle.daa_fixed.specs.Leg.{IsLegInRange}
use Rattle.daa_fixed.specs.Size.{IsWithin}
use Rattle.daa_fixed.proofs.Bounds.{fits, as_within}
use Rattle.daa_fixed.proofs.LegSizes as size
use Rattle.daa_detect.proofs.products.motion_of.Goals as goal

pub margin-requires-clause-miss : goal.margin-requires-clause-miss
margin-requires-clause-miss c =
    let r : IsLegInRange c.args.leg.now = search rules in
    let w : IsWithin 3200000000000 c.miss.result = as_within c.miss.ensures (size.sxv r) in
    let f = fits w64 w (lit< tt) in
    simp to_z-of_z w

pub invariant_of-result : goal.invariant_of-result
invariant_of-result c =
    let r : IsLegInRange c.args.leg.now = search rules in
    let ws : IsWithin 3200000000 c.speed_squared-speed_squared.result = as_within c.speed_squared-speed_squared.ensures (size.vv r) in
    let wr : IsWithin 3200000000000 c.rate.result = as_within c.rate.ensures (size.sv r) in
    let f1 = fits w64 ws (lit< tt) in
    let f2 = fits w64 wr (lit< tt) in
    let f3 = fits w128 c.margin.ensures.size (lit< tt) in
    simp to_z-of_z (record { speed_bound = ws; rate_bound = wr; margin_bound = c.margin.ensures.size })
