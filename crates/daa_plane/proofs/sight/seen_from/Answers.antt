use Rattle.std.proofs.Common.{◌≡◌, ◌∙◌, ap, sym, inr, true, false, w64, to_z-of_z, lit<}
use Rattle.daa_fixed.proofs.Bounds.{fits}
use Rattle.daa_plane.specs.Gaps.{gap_of}
use Rattle.daa_plane.specs.Sight.{is_own_place, is_place, is_near, is_in_sight, is_slow, seen_along, IsSeen}
use Rattle.daa_plane.specs.Ways.{way_of}
use Rattle.daa_plane.proofs.PlaceLemmas.{near_parts}
use Rattle.daa_plane.proofs.sight.seen_from.Goals as goal

pub way_of-requires : goal.way_of-requires
way_of-requires c =
    let near : is_near c.gap_of-gap.result ≡ true = sym c.if-not-is_near.ensures in
    near_parts c.gap_of-gap.result c.gap_of-gap.ensures.size near

pub returns-clause-seen : goal.returns-clause-seen
returns-clause-seen c =
    let own = c.args.own.now in
    let aircraft = c.args.aircraft.now in
    let gap : c.gap_of-gap.result ≡ gap_of own aircraft = c.gap_of-gap.ensures.value in
    let way : c.way_of.result ≡ way_of c.gap_of-gap.result = c.way_of.ensures.value in
    let f = fits w64 c.track_of-turn.ensures.turn (lit< tt) in
    let is : c.seen_along-seen.result ≡ seen_along c.way_of.result c.track_of-turn.result.1 aircraft = simp to_z-of_z at c.seen_along-seen.ensures.value in
    record {
      track = c.track_of-turn.result.0;
      turn = c.track_of-turn.result.1;
      track_is = c.track_of-turn.ensures.track;
      seen_is = is ∙ (λ i. seen_along ((way ∙ ap way_of gap) i) c.track_of-turn.result.1 aircraft);
    }

pub returns-then-not-is_in_sight-clause-far : goal.returns-then-not-is_in_sight-clause-far
returns-then-not-is_in_sight-clause-far c = λ _.
    let own = c.args.own.now in
    let aircraft = c.args.aircraft.now in
    let gap : c.gap_of-gap.result ≡ gap_of own aircraft = c.gap_of-gap.ensures.value in
    let way : c.way_of.result ≡ way_of c.gap_of-gap.result = c.way_of.ensures.value in
    let f = fits w64 c.track_of-turn.ensures.turn (lit< tt) in
    let is : c.seen_along-seen.result ≡ seen_along c.way_of.result c.track_of-turn.result.1 aircraft = simp to_z-of_z at c.seen_along-seen.ensures.value in
    let seen : IsSeen own aircraft c.seen_along-seen.result = record {
      track = c.track_of-turn.result.0;
      turn = c.track_of-turn.result.1;
      track_is = c.track_of-turn.ensures.track;
      seen_is = is ∙ (λ i. seen_along ((way ∙ ap way_of gap) i) c.track_of-turn.result.1 aircraft);
    } in
    let taken : is_own_place own ≡ true = sym c.if-not-is_own_place.ensures in
    let sound : is_place aircraft ≡ true = sym c.if-not-is_place.ensures in
    let beyond : is_in_sight c.seen_along-seen.result ≡ false = sym c.if-not-is_in_sight.ensures in
    record { taken = taken; sound = sound; far = inr (c.seen_along-seen.result, seen, beyond) }

pub returns-then-not-is_slow-clause-traffic : goal.returns-then-not-is_slow-clause-traffic
returns-then-not-is_slow-clause-traffic c = λ _.
    let own = c.args.own.now in
    let aircraft = c.args.aircraft.now in
    let gap : c.gap_of-gap.result ≡ gap_of own aircraft = c.gap_of-gap.ensures.value in
    let way : c.way_of.result ≡ way_of c.gap_of-gap.result = c.way_of.ensures.value in
    let f = fits w64 c.track_of-turn.ensures.turn (lit< tt) in
    let is : c.seen_along-seen.result ≡ seen_along c.way_of.result c.track_of-turn.result.1 aircraft = simp to_z-of_z at c.seen_along-seen.ensures.value in
    let seen : IsSeen own aircraft c.seen_along-seen.result = record {
      track = c.track_of-turn.result.0;
      turn = c.track_of-turn.result.1;
      track_is = c.track_of-turn.ensures.track;
      seen_is = is ∙ (λ i. seen_along ((way ∙ ap way_of gap) i) c.track_of-turn.result.1 aircraft);
    } in
    let taken : is_own_place own ≡ true = sym c.if-not-is_own_place.ensures in
    let beyond : is_slow c.seen_along-seen.result ≡ false = sym c.if-not-is_slow.ensures in
    record { taken = taken; fast = inr (c.seen_along-seen.result, seen, beyond) }
