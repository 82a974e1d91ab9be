use Rattle.std.proofs.Common.{◌*ℤ◌, pos, arith, lit<, rules, w64, to_z-of_z, FitsSigned}
use Rattle.daa_fixed.proofs.Bounds.{fits, nat_kept}
use Rattle.daa_vwindow.proofs.Bands.{max_is}
use Rattle.daa_vwindow.proofs.Heights.{gain, max_small}
use Rattle.daa_vwindow.proofs.windows.rise.Goals as goal

pub overflow_mul-gained : goal.overflow_mul-gained
overflow_mul-gained c =
    let t = nat_kept c.args.volume.now.tcoa (omega (arith, c.requires.volume.tcoa)) in
    let a : FitsSigned w64 c.args.speed = c.ranges.speed in
    simp (t, to_z-of_z) (fits w64 (gain c.args.volume.now.tcoa c.args.speed c.requires.volume.tcoa c.requires.rises c.requires.speed) (lit< tt))

pub passage-requires-clause-low : goal.passage-requires-clause-low
passage-requires-clause-low c =
    let z = nat_kept c.args.volume.now.zthr c.requires.volume.zthr in
    let t = nat_kept c.args.volume.now.tcoa (omega (arith, c.requires.volume.tcoa)) in
    let a : FitsSigned w64 c.args.speed = c.ranges.speed in
    let g = gain c.args.volume.now.tcoa c.args.speed c.requires.volume.tcoa c.requires.rises c.requires.speed in
    let f = fits w64 g (lit< tt) in
    let m : FitsSigned w64 c.max.result = search rules in
    let x = max_is (pos c.args.volume.now.zthr) (pos c.args.volume.now.tcoa *ℤ c.args.speed) (simp (z, t, to_z-of_z) at c.max.ensures.value) in
    simp to_z-of_z (max_small c.requires.volume.zthr g x)

pub returns-clause-times : goal.returns-clause-times
returns-clause-times c =
    let z = nat_kept c.args.volume.now.zthr c.requires.volume.zthr in
    let t = nat_kept c.args.volume.now.tcoa (omega (arith, c.requires.volume.tcoa)) in
    let h : FitsSigned w64 c.args.height = c.ranges.height in
    let a : FitsSigned w64 c.args.speed = c.ranges.speed in
    let f = fits w64 (gain c.args.volume.now.tcoa c.args.speed c.requires.volume.tcoa c.requires.rises c.requires.speed) (lit< tt) in
    let m : FitsSigned w64 c.max.result = search rules in
    let low = simp (z, t, to_z-of_z) at c.max.ensures.value in
    rw (← low) (simp (z, to_z-of_z) at c.passage.ensures.times)
