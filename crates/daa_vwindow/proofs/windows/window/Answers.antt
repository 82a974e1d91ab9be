use Rattle.std.proofs.Common.{◌≡◌, pos, ◌≤ℤ◌, ◌<ℤ◌, arith, refl}
use Rattle.std.proofs.lemmas.Int.{ints}
use Rattle.daa_fixed.proofs.Bounds.{nat_kept}
use Rattle.daa_vwindow.proofs.Bands.{max_is}
use Rattle.daa_vwindow.proofs.Heights.{retarget, rising, falling, standing, up_kept, down_kept}
use Rattle.daa_vwindow.proofs.windows.window.Goals as goal

pub returns-then-speed-eq0-clause-times : goal.returns-then-speed-eq0-clause-times
returns-then-speed-eq0-clause-times c =
    let h = up_kept c.args.leg.now.place.up c.requires.leg.up in
    let z = nat_kept c.args.volume.now.zthr c.requires.volume.zthr in
    let e : c.args.leg.now.velocity.up ≡ pos 0 = omega (arith, ints) in
    retarget c.args.leg.now.secs _ _ c.level_flight.result (standing c.args.leg.now c.args.volume.now e) (simp (h, z) at c.level_flight.ensures.times)

pub returns-then-speed-gt0-clause-times : goal.returns-then-speed-gt0-clause-times
returns-then-speed-gt0-clause-times c =
    let h = up_kept c.args.leg.now.place.up c.requires.leg.up in
    let a = up_kept c.args.leg.now.velocity.up (omega (arith, c.requires.leg.up_speed)) in
    let up : pos 1 ≤ℤ c.args.leg.now.velocity.up = omega (arith, ints) in
    retarget c.args.leg.now.secs _ _ c.rise.result (rising c.args.leg.now c.args.volume.now _ up (max_is _ _ refl)) (simp (h, a) at c.rise.ensures.times)

pub returns-else-speed-gt0-clause-times : goal.returns-else-speed-gt0-clause-times
returns-else-speed-gt0-clause-times c =
    let h = down_kept c.args.leg.now.place.up c.requires.leg.up in
    let a = down_kept c.args.leg.now.velocity.up (omega (arith, c.requires.leg.up_speed)) in
    let down : c.args.leg.now.velocity.up <ℤ pos 0 = omega (arith, ints) in
    retarget c.args.leg.now.secs _ _ c.rise-else-speed-gt0.result (falling c.args.leg.now c.args.volume.now _ down (max_is _ _ refl)) (simp (h, a) at c.rise-else-speed-gt0.ensures.times)
