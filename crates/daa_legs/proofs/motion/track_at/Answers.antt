use Rattle.std.proofs.Common.{rules, ◌∙◌, ℕ, ◌≤◌, pos, ◌*ℤ◌, FitsSigned, w32, to_z, to_z-of_z, lit<, arith, ◌≡◌, ◌*◌}
use Rattle.std.proofs.lemmas.Int.{ints}
use Rattle.daa_fixed.specs.Size.{IsWithin}
use Rattle.daa_fixed.proofs.Bounds.{fits, times}
use Rattle.daa_fixed.proofs.LegSizes.{natural}
use Rattle.daa_fixed.proofs.Towards.{from_within}
use Rattle.daa_legs.proofs.StateRanges.{own_track}
use Rattle.daa_legs.proofs.CandidateCases.{track-case, track-other, product_nonneg}
use Rattle.daa_legs.proofs.motion.track_at.Goals as goal

small : (k : ℕ) → k ≤ 180 → to_z w32 k ≡ pos k
small k h = omega (arith, ints)

pub turn-requires-clause-most : goal.turn-requires-clause-most
turn-requires-clause-most c =
    let k : c.args.k ≤ 180 = omega (arith, c.requires.k) in
    let e : to_z w32 c.args.k ≡ pos c.args.k = small c.args.k k in
    let wr : IsWithin 30 c.args.rates.now.turn = from_within 30 tt tt c.requires.rates.turn in
    let w : IsWithin (180 * 30) (pos c.args.k *ℤ c.args.rates.now.turn) = times (natural 180 c.args.k k) wr in
    let f1 : FitsSigned w32 c.args.rates.now.turn = fits w32 wr (lit< tt) in
    let f2 : FitsSigned w32 (pos c.args.k *ℤ c.args.rates.now.turn) = fits w32 w (lit< tt) in
    let p = product_nonneg c.args.k c.args.rates.now.turn (omega (arith, ints, c.requires.rates.turn.least)) in
    simp (e, to_z-of_z) (record { least = p; most = omega (arith, ints, p, w.size) })

pub returns-in-Track-clause-value : goal.returns-in-Track-clause-value
returns-in-Track-clause-value c =
    let k : c.args.k ≤ 180 = omega (arith, c.requires.k) in
    let e : to_z w32 c.args.k ≡ pos c.args.k = small c.args.k k in
    let wr : IsWithin 30 c.args.rates.now.turn = from_within 30 tt tt c.requires.rates.turn in
    let w : IsWithin (180 * 30) (pos c.args.k *ℤ c.args.rates.now.turn) = times (natural 180 c.args.k k) wr in
    let f1 : FitsSigned w32 c.args.rates.now.turn = fits w32 wr (lit< tt) in
    let f2 : FitsSigned w32 (pos c.args.k *ℤ c.args.rates.now.turn) = fits w32 w (lit< tt) in
    let f3 : FitsSigned w32 c.args.own.now.trk = search rules in
    let f4 : FitsSigned w32 c.in-Track.c = search rules in
    let f5 : FitsSigned w32 c.turn.result = search rules in
    simp to_z-of_z ((simp (e, to_z-of_z) at c.turn.ensures.value) ∙ track-case c.args.own.now c.args.rates.now c.args.candidate c.in-Track.c c.args.k c.in-Track.is)

pub returns-in_default : goal.returns-in_default
returns-in_default c =
    let f : FitsSigned w32 c.args.own.now.trk = search rules in
    simp to_z-of_z (record { value = track-other c.args.own.now c.args.rates.now c.args.candidate c.args.k c.in_default.not-Track; in_range = own_track c.requires.own })
