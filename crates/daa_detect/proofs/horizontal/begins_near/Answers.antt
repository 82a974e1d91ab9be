use Rattle.std.proofs.Common.{refl, arith, lit<, rules, w64, to_z-of_z}
use Rattle.daa_fixed.specs.Leg.{IsLegInRange}
use Rattle.daa_fixed.proofs.Bounds.{times, fits, le_test, nat_kept}
use Rattle.daa_fixed.proofs.LegSizes.{natural}
use Rattle.daa_detect.proofs.Sizes.{of_leg}
use Rattle.daa_detect.proofs.horizontal.begins_near.Goals as goal

pub returns : goal.returns
returns c =
    let r : IsLegInRange c.args.leg.now = search rules in
    let e = nat_kept c.args.volume.now.dthr (omega (arith, c.requires.volume.dthr)) in
    let wd = natural 360000 c.args.volume.now.dthr c.requires.volume.dthr in
    let f = fits w64 (times wd wd) (lit< tt) in
    simp (e, of_leg, to_z-of_z) (le_test _ _ _ _ refl refl)
