use Rattle.std.proofs.Common.{◌≡◌, ◌<◌, ◌+◌, ◌-◌, ℕ, List, inl, inr, ⊎_elim, refl, sym, subst, ap, ◌∙◌, arith, length, slice_set, true, false}
use Rattle.std.specs.Prelude.{slice_index, slice_index_or}
use Rattle.std.proofs.lemmas.Option.{same_Some, slice_get-get_or}
use Rattle.daa_config.proofs.CandidateLemmas.{kind_within}
use Rattle.daa_legs.specs.declared.branch.Branch.{Branch}
use Rattle.daa_config.specs.Candidates.{start_of, values_of}
use Rattle.daa_scan.specs.declared.refusal.Seconds.{Seconds}
use Rattle.daa_scan.specs.Inside.Marking.{AreMarkedUpto, AddsNext}
use Rattle.daa_scan.specs.Inside.Refusal.{AreSecondsOf}
use Rattle.daa_scan.specs.Inside.Rounds.{settings_in, own_in, aircraft_in}
use Rattle.daa_scan.proofs.Marks.{meets_before, marked_past, marked_asked, marked_on, marked_next}
use Rattle.daa_scan.proofs.Sides.{begun_trail, begun_past, clear_walked}
use Rattle.daa_scan.proofs.marking.mark_kind.Goals as goal

pub returns-then-not-has-clause-masks : goal.returns-then-not-has-clause-masks
returns-then-not-has-clause-masks c before h =
    let r = c.args.round.now in
    marked_past (settings_in r) (own_in r) (aircraft_in r) c.args.first r.l before c.args.masks.now c.args.kind r.level r.known.accepted r.known.there
    (r.known.kept.idle c.args.kind (cc (c.has.ensures, c.if-not-has.true)) r.l r.level r.known.there) h

pub returns-then-seconds-round-clause-masks : goal.returns-then-seconds-round-clause-masks
returns-then-seconds-round-clause-masks c before h =
    let r = c.args.round.now in
    let seconds = subst (λ (s : Seconds). AreSecondsOf (settings_in r) (own_in r) (aircraft_in r) c.args.kind r.level.volume r.level.lookahead s) (sym c.of-seconds.ensures)
    (r.known.seconds c.args.kind) in
    marked_past (settings_in r) (own_in r) (aircraft_in r) c.args.first r.l before c.args.masks.now c.args.kind r.level r.known.accepted r.known.there
    (λ z m. seconds.before z m.leg m.before (omega (arith, m.before, c.if-seconds-round.true)) m.violates) h

pub returns-then-not-some_has_level-clause-masks : goal.returns-then-not-some_has_level-clause-masks
returns-then-not-some_has_level-clause-masks c before h =
    let r = c.args.round.now in
    let start = start_of c.args.kind (settings_in r) in
    let nested = r.known.within c.if-round.true in
    marked_asked (settings_in r) (own_in r) (aircraft_in r) c.args.first r.l before c.args.masks.now start (start + length (values_of c.args.kind (settings_in r))) (omega arith)
    (λ j b from d. inr (
      omega (arith, nested.some),
      (λ candidate m. meets_before (settings_in r) (own_in r) candidate (aircraft_in r) r.l r.level r.known.there nested m),
      c.some_has_level.ensures c.if-not-some_has_level.true j
          (omega (arith, c.max-from.ensures, c.begin_level.ensures.from, from))
          (omega (arith, c.min-upto.ensures, c.begin_level.ensures.upto, d, b)),
    ))
    h

pub loop-at-init : goal.loop-at-init
loop-at-init c =
    let r = c.args.round.now in
    let seconds = subst (λ (s : Seconds). AreSecondsOf (settings_in r) (own_in r) (aircraft_in r) c.args.kind r.level.volume r.level.lookahead s) (sym c.of-seconds.ensures)
    (r.known.seconds c.args.kind) in
    let some : c.of-seconds.result.begin < r.level.lookahead = omega (arith, c.if-seconds-round.false) in
    record {
      trails = record {
        upper = begun_trail r c.args.kind c.of-seconds.result seconds some true _ c.begun.result c.begin_level.ensures.upper c.begun.ensures.walked c.begun.ensures.end
            c.begun.ensures.hit c.begun.ensures.sure c.begun.ensures.answer;
        lower = begun_trail r c.args.kind c.of-seconds.result seconds some false _ c.begun-2.result c.begin_level.ensures.lower c.begun-2.ensures.walked c.begun-2.ensures.end
            c.begun-2.ensures.hit c.begun-2.ensures.sure c.begun-2.ensures.answer;
        past_upper = begun_past r c.args.kind c.of-seconds.result seconds some c.begun.result c.begun.ensures.end;
        past_lower = begun_past r c.args.kind c.of-seconds.result seconds some c.begun-2.result c.begun-2.ensures.end;
      };
      masks = λ before h. marked_on (settings_in r) (own_in r) (aircraft_in r) c.args.first r.l before c.args.masks.now (start_of c.args.kind (settings_in r)) c.max-from.result
          (λ j b d. omega (arith, c.max-from.ensures, c.begin_level.ensures.from, d)) (λ j b u. omega (arith, c.max-from.ensures, c.begin_level.ensures.from, u)) h;
      from = omega arith;
      near = inr refl;
    }

pub loop-index-init : goal.loop-index-init
loop-index-init c = record {
  trails = c.loop-at.invariant.trails;
  masks = λ before h. h;
  near = omega (arith, c.next_end-end.ensures.after);
}

-- the branch of the candidate at the index
pub bounds-branches-index : goal.bounds-branches-index
bounds-branches-index c =
    let r = c.args.round.now in
    let room = r.known.kept.trunks.branches.room in
    let same : length c.branches-branches.result.now ≡ length r.trunks.now.branches = ap (λ (b : List Branch). length b) c.branches-branches.ensures in
    omega (arith, c.min-upto.ensures, c.loop-index-test.true, c.next_end-end.ensures.within, c.begin_level.ensures.upto, kind_within c.args.kind (settings_in r), room, same)

pub next_mask-requires-clause-branch : goal.next_mask-requires-clause-branch
next_mask-requires-clause-branch c d =
    let r = c.args.round.now in
    let room = r.known.kept.trunks.branches.room in
    let inside : c.loop-index.index < length r.trunks.now.branches = omega (
      arith,
      c.min-upto.ensures,
      c.loop-index-test.true,
      c.next_end-end.ensures.within,
      c.begin_level.ensures.upto,
      kind_within c.args.kind (settings_in r),
      room,
    ) in
    same_Some _ _ (sym (slice_get-get_or r.trunks.now.branches c.loop-index.index d inside) ∙ slice_get-get_or r.trunks.now.branches c.loop-index.index _ inside)
    ∙ ap (λ (b : List Branch). slice_index_or b c.loop-index.index _) (sym c.branches-branches.ensures)

pub next_mask-requires-clause-index : goal.next_mask-requires-clause-index
next_mask-requires-clause-index c = record {
  from = omega (arith, c.max-from.ensures, c.loop-at.invariant.from, c.loop-index.auto.index, c.begin_level.ensures.from);
  before = omega (arith, c.min-upto.ensures, c.loop-index-test.true, c.next_end-end.ensures.within, c.begin_level.ensures.upto);
}

pub loop-index-preserved : goal.loop-index-preserved
loop-index-preserved c =
    let r = c.args.round.now in
    let j : ℕ = c.loop-index.index - c.args.first in
    let placed : c.args.first + j ≡ c.loop-index.index = omega (arith, c.max-from.ensures, c.loop-at.invariant.from, c.loop-index.auto.index) in
    let inside : j < length c.loop-index.masks = omega (arith, placed, c.min-upto.ensures, c.loop-index-test.true, c.next_end-end.ensures.within, c.loop-index.auto.masks, c.loop-at.auto.masks) in
    let more : c.args.first + j + 1 ≡ c.loop-index.index + 1 = omega (arith, placed) in
    let next = subst (λ (n : ℕ). AddsNext r n (slice_index c.loop-index.masks j) c.next_mask.result) (sym placed) c.next_mask.ensures.mask in
    record {
      trails = c.next_mask.ensures.trails;
      masks = λ old h. subst (λ (n : ℕ). AreMarkedUpto r c.args.first n old (slice_set c.loop-index.masks j c.next_mask.result)) more
          (marked_next (settings_in r) (own_in r) (aircraft_in r) c.args.first r.l old c.loop-index.masks j c.next_mask.result inside (λ is. next (slice_index old j) is)
          (subst (λ (n : ℕ). AreMarkedUpto r c.args.first n old c.loop-index.masks) (sym placed) (c.loop-index.invariant.masks old h)));
      near = omega (arith, c.loop-index-test.true);
    }

pub loop-at-preserved-after-loop-index : goal.loop-at-preserved-after-loop-index
loop-at-preserved-after-loop-index c =
    let r = c.args.round.now in
    record {
      trails = c.loop-index.invariant.trails;
      masks = λ before h. marked_on (settings_in r) (own_in r) (aircraft_in r) c.args.first r.l before c.loop-index.masks c.loop-index.index c.next_end-end.result
          (λ j b d. omega (arith, c.loop-index-test.false, d)) (λ j b u. omega (arith, c.loop-index.invariant.near, u))
          (c.loop-index.invariant.masks before (c.loop-at.invariant.masks before h));
      from = omega (arith, c.loop-at.invariant.from, c.next_end-end.ensures.after);
      near = inl c.next_end-end.ensures.within;
    }

pub loop-at-preserved : goal.loop-at-preserved
loop-at-preserved c =
    let r = c.args.round.now in
    record {
      trails = c.loop-at.invariant.trails;
      masks = λ before h. marked_asked (settings_in r) (own_in r) (aircraft_in r) c.args.first r.l before c.loop-at.masks c.loop-at.at c.next_end-end.result
          (omega (arith, c.next_end-end.ensures.after))
          (λ j b from d. ⊎_elim
          (λ t. inl t)
          (λ (n, clear). let nested = r.known.within n in
          inr (omega (arith, nested.some), (λ candidate m. meets_before (settings_in r) (own_in r) candidate (aircraft_in r) r.l r.level r.known.there nested m), clear))
          (c.some_is_open.ensures c.if-some_is_open.false j (omega (arith, from)) (omega (arith, d))))
          (c.loop-at.invariant.masks before h);
      from = omega (arith, c.loop-at.invariant.from, c.next_end-end.ensures.after);
      near = inl c.next_end-end.ensures.within;
    }

pub returns-clause-masks : goal.returns-clause-masks
returns-clause-masks c before h =
    let r = c.args.round.now in
    marked_on (settings_in r) (own_in r) (aircraft_in r) c.args.first r.l before c.loop-at.masks c.loop-at.at (start_of c.args.kind (settings_in r) + length (values_of c.args.kind (settings_in r)))
    (λ j b d. omega (arith, c.loop-at-test.false, c.min-upto.ensures, c.begin_level.ensures.upto, c.loop-at.auto.masks, b, d))
    (λ j b u. ⊎_elim
    (λ n. omega (arith, n, c.min-upto.ensures, c.begin_level.ensures.upto, u))
    (λ n. omega (arith, n, c.max-from.ensures, c.begin_level.ensures.from, c.begin_level.ensures.upto, u))
    c.loop-at.invariant.near)
    (c.loop-at.invariant.masks before h)

pub returns-clause-stretch : goal.returns-clause-stretch
returns-clause-stretch c =
    let r = c.args.round.now in
    let trails = c.loop-at.invariant.trails in
    record {
      from = c.begin_level.ensures.from;
      upto = c.begin_level.ensures.upto;
      upper = clear_walked r c.args.kind true c.loop-at.trails.upper.walked (λ z j b. (trails.upper z).along.none j b);
      lower = clear_walked r c.args.kind false c.loop-at.trails.lower.walked (λ z j b. (trails.lower z).along.none j b);
    }
