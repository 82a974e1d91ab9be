use Rattle.std.proofs.Common.{◌≡◌, ◌*◌, ℤ, pos, ◌*ℤ◌, ◌≤ℤ◌, ◌<ℤ◌, refl, lit<, arith, w64, to_z-of_z}
use Rattle.std.proofs.lemmas.Int.{ints}
use Rattle.daa_fixed.proofs.Bounds.{times, fits}
use Rattle.daa_fixed.proofs.LegSizes.{natural}
use Rattle.daa_margin.proofs.Comparisons.{is_within, is_beyond}
use Rattle.daa_margin.proofs.MomentSizes.{small_kept}
use Rattle.daa_margin.proofs.Stretches.{kept_all, kept_until, moves_past}
use Rattle.daa_margin.proofs.windows.last_kept.Goals as goal

pub returns-then-reach-room : goal.returns-then-reach-room
returns-then-reach-room c =
    let s = small_kept c.args.secs (omega (arith, c.requires.secs)) in
    let wr = times (natural 180 c.args.secs c.requires.secs) c.requires.pace in
    let f1 = fits w64 c.requires.pace (lit< tt) in
    let f2 = fits w64 c.requires.room (lit< tt) in
    let f3 = fits w64 wr (lit< tt) in
    kept_all c.args.secs c.args.room c.args.pace c.requires.not_negative _ (is_within _ _ (simp (s, to_z-of_z) at c.if-reach-room.true)) c.end_of_leg.ensures.num c.end_of_leg.ensures.den

pub made_good-requires : goal.made_good-requires
made_good-requires c =
    let s = small_kept c.args.secs (omega (arith, c.requires.secs)) in
    let wr = times (natural 180 c.args.secs c.requires.secs) c.requires.pace in
    let f1 = fits w64 c.requires.pace (lit< tt) in
    let f2 = fits w64 c.requires.room (lit< tt) in
    let f3 = fits w64 wr (lit< tt) in
    let short = is_beyond _ _ (simp (s, to_z-of_z) at c.if-reach-room.false) in
    let moving = moves_past c.args.secs c.args.room c.args.pace c.requires.not_negative short in
    simp to_z-of_z (record {
      from = c.requires.not_negative;
      upto = omega (arith, ints, c.requires.room.size);
      moves = moving;
      slow = omega (arith, ints, c.requires.pace.size);
    })

pub returns : goal.returns
returns c =
    let s = small_kept c.args.secs (omega (arith, c.requires.secs)) in
    let wr = times (natural 180 c.args.secs c.requires.secs) c.requires.pace in
    let f1 = fits w64 c.requires.pace (lit< tt) in
    let f2 = fits w64 c.requires.room (lit< tt) in
    let f3 = fits w64 wr (lit< tt) in
    kept_until c.args.secs c.args.room c.args.pace c.requires.not_negative _ (is_beyond _ _ (simp (s, to_z-of_z) at c.if-reach-room.false))
    (simp to_z-of_z at c.made_good.ensures.num) (simp to_z-of_z at c.made_good.ensures.den)
