use Rattle.std.proofs.Common.{◌≡◌, ◌*◌, ℕ, ℤ, pos, neg_ℤ, ◌-ℤ◌, ◌*ℤ◌, ◌≤ℤ◌, ◌<ℤ◌, refl, lit<, arith, w64, to_z-of_z}
use Rattle.std.proofs.lemmas.Int.{ints}
use Rattle.daa_fixed.specs.Size.{IsWithin}
use Rattle.daa_fixed.proofs.Bounds.{times, fits, zero_less}
use Rattle.daa_fixed.proofs.LegSizes.{natural}
use Rattle.daa_margin.proofs.Comparisons.{is_within, is_beyond}
use Rattle.daa_margin.proofs.MomentSizes.{small_kept}
use Rattle.daa_margin.proofs.Stretches.{moves, reached_at_once, reached_later, reached_never}
use Rattle.daa_margin.proofs.windows.reached.Goals as goal

turned_within : {m : ℕ} (x : ℤ) → IsWithin m x → IsWithin m (neg_ℤ x)
turned_within {m} x h = record { size = omega (arith, ints, h.size) }

one : (x : ℤ) → pos 0 <ℤ x → pos 1 ≤ℤ x
one x h = omega (arith, ints)

natural0 : (x : ℤ) → pos 0 <ℤ x → pos 0 ≤ℤ x
natural0 x h = omega (arith, ints)

pub returns-then-gap-le0 : goal.returns-then-gap-le0
returns-then-gap-le0 c =
    let f1 = fits w64 c.requires.gap (lit< tt) in
    let f2 = fits w64 c.requires.pace (lit< tt) in
    let f3 = fits w64 (turned_within c.args.gap c.requires.gap) (lit< tt) in
    let f4 = fits w64 (turned_within c.args.pace c.requires.pace) (lit< tt) in
    reached_at_once c.args.secs c.args.gap c.args.pace _ _ (is_within _ _ (simp to_z-of_z at c.if-gap-le0.true)) c.beginning.ensures.num c.beginning.ensures.den
    (simp (zero_less, to_z-of_z) at c.last_kept.ensures)

pub made_good-requires : goal.made_good-requires
made_good-requires c =
    let s = small_kept c.args.secs (omega (arith, c.requires.secs)) in
    let wr = times (natural 180 c.args.secs c.requires.secs) c.requires.pace in
    let f1 = fits w64 c.requires.pace (lit< tt) in
    let f2 = fits w64 c.requires.gap (lit< tt) in
    let f3 = fits w64 wr (lit< tt) in
    let some = is_beyond _ _ (simp to_z-of_z at c.if-gap-le0.false) in
    let moving = moves c.args.secs c.args.gap c.args.pace (one _ some) (is_within _ _ (simp (s, to_z-of_z) at c.if-gap-reach.true)) in
    simp to_z-of_z (record {
      from = natural0 _ some;
      upto = omega (arith, ints, c.requires.gap.size);
      moves = moving;
      slow = omega (arith, ints, c.requires.pace.size);
    })

pub returns-then-gap-reach : goal.returns-then-gap-reach
returns-then-gap-reach c =
    let s = small_kept c.args.secs (omega (arith, c.requires.secs)) in
    let wr = times (natural 180 c.args.secs c.requires.secs) c.requires.pace in
    let f1 = fits w64 c.requires.pace (lit< tt) in
    let f2 = fits w64 c.requires.gap (lit< tt) in
    let f3 = fits w64 wr (lit< tt) in
    reached_later c.args.secs c.args.gap c.args.pace _ _
    (is_beyond _ _ (simp to_z-of_z at c.if-gap-le0.false)) (is_within _ _ (simp (s, to_z-of_z) at c.if-gap-reach.true))
    (simp to_z-of_z at c.made_good.ensures.num) (simp to_z-of_z at c.made_good.ensures.den) c.end_of_leg.ensures.num c.end_of_leg.ensures.den

pub returns-else-gap-reach : goal.returns-else-gap-reach
returns-else-gap-reach c =
    let s = small_kept c.args.secs (omega (arith, c.requires.secs)) in
    let wr = times (natural 180 c.args.secs c.requires.secs) c.requires.pace in
    let f1 = fits w64 c.requires.pace (lit< tt) in
    let f2 = fits w64 c.requires.gap (lit< tt) in
    let f3 = fits w64 wr (lit< tt) in
    reached_never c.args.secs c.args.gap c.args.pace (is_beyond _ _ (simp to_z-of_z at c.if-gap-le0.false)) (is_beyond _ _ (simp (s, to_z-of_z) at c.if-gap-reach.false))
