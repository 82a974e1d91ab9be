use Rattle.std.proofs.Common.{◌^◌, ℤ, rules, w64, to_z-of_z, lit<, refl, ap, ◌*ℤ◌}
use mir.Syntax.{w128}
use Rattle.daa_fixed.specs.Size.{IsWithin}
use Rattle.daa_fixed.specs.Leg.{IsLegInRange}
use Rattle.daa_fixed.proofs.Bounds.{times, fits, lt_test, below}
use Rattle.daa_taumod.proofs.vertical.is_nearing_in_height.Goals as goal

pub returns : goal.returns
returns c =
    let r : IsLegInRange c.args.leg.now = search rules in
    let h : IsWithin (2 ^ 59) c.height_then.result = c.height_then.ensures.size in
    let s : IsWithin 40000 c.args.leg.now.velocity.up = below r.up_speed in
    let f1 = fits w64 h (lit< tt) in
    let f2 = fits w128 h (lit< tt) in
    let f3 = fits w64 s (lit< tt) in
    let f4 = fits w128 s (lit< tt) in
    let f5 = fits w128 (times h s) (lit< tt) in
    simp to_z-of_z (lt_test _ _ _ _ (ap (λ (x : ℤ). x *ℤ c.args.leg.now.velocity.up) c.height_then.ensures.value) refl)
