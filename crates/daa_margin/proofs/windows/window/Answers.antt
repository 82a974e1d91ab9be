use Rattle.std.proofs.Common.{◌≡◌, ℤ, pos, ◌≤ℤ◌, ◌<ℤ◌, arith, w64, to_z, of_z}
use Rattle.std.proofs.lemmas.Int.{ints}
use Rattle.daa_vwindow.proofs.Heights.{retarget, up_kept, down_kept}
use Rattle.daa_margin.proofs.Lines.{above_is, below_is}
use Rattle.daa_margin.proofs.windows.window.Goals as goal

pub returns-then-height-ge0 : goal.returns-then-height-ge0
returns-then-height-ge0 c =
    let h = up_kept c.args.leg.now.place.up c.requires.leg.up in
    let w = up_kept c.args.leg.now.velocity.up (omega (arith, c.requires.leg.up_speed)) in
    let above : pos 0 ≤ℤ c.args.leg.now.place.up = omega (arith, ints) in
    retarget c.args.leg.now.secs _ _ c.from_above.result (λ n d t. above_is c.args.leg.now c.args.volume.now c.args.bounds.now n d t.from t.fraction above) (simp (h, w) at c.from_above.ensures)

pub returns-else-height-ge0 : goal.returns-else-height-ge0
returns-else-height-ge0 c =
    let h = down_kept c.args.leg.now.place.up c.requires.leg.up in
    let w = down_kept c.args.leg.now.velocity.up (omega (arith, c.requires.leg.up_speed)) in
    let below : c.args.leg.now.place.up <ℤ pos 0 = omega (arith, ints) in
    retarget c.args.leg.now.secs _ _ c.from_above-else-height-ge0.result (λ n d t. below_is c.args.leg.now c.args.volume.now c.args.bounds.now below n d t.from t.fraction)
    (simp (h, w) at c.from_above-else-height-ge0.ensures)
