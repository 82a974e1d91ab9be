use Rattle.std.proofs.Common.{arith, ℤ, subst, lit<, w64, to_z-of_z}
use Rattle.daa_fixed.specs.Size.{IsWithin}
use Rattle.daa_fixed.proofs.Bounds.{fits, as_within}
use Rattle.daa_fixed.proofs.LegSizes as size
use Rattle.daa_margin.specs.MayViolate.{IsRootAbove}
use Rattle.daa_margin.proofs.Rooms.{speed_at_most}
use Rattle.daa_margin.proofs.soon.speed_above.Goals as goal

pub returns : goal.returns
returns c =
    let wq : IsWithin 3200000000 c.speed_squared.result = as_within c.speed_squared.ensures (size.vv c.requires) in
    let f = fits w64 wq (lit< tt) in
    let root = subst (λ (z : ℤ). IsRootAbove z c.root_above.result) c.speed_squared.ensures (simp to_z-of_z at c.root_above.ensures.root) in
    let ws = speed_at_most c.args.leg.now c.root_above.result c.requires root in
    let g = fits w64 ws (lit< tt) in
    simp to_z-of_z (record { root = root; size = ws })
