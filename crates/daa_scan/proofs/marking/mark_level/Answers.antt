use Rattle.std.proofs.Common.{ℕ, List, ◌+◌, sym, subst, arith, length}
use Rattle.daa_config.specs.declared.kind.Kind.TheVariants.{Altitude}
use Rattle.daa_config.specs.Candidates.{start_of, values_of}
use Rattle.daa_config.proofs.CandidateLemmas.{begins, whole_ends}
use Rattle.daa_scan.specs.Inside.Marking.{AreMarked}
use Rattle.daa_scan.proofs.Marks.{track_first, marked_all}
use Rattle.daa_scan.proofs.marking.mark_level.Goals as goal

pub invariant_of-round : goal.invariant_of-round
invariant_of-round c = record {
  known = record {
    accepted = c.level-level.ensures.accepted;
    kept = c.requires.trunks;
    there = c.level-level.ensures.value;
    in_range = c.level-level.ensures.in_range;
    few = omega (arith, c.requires.l.1, c.level-level.ensures.accepted.few_levels);
    seconds = c.windows_at.ensures;
    within = λ t. c.is_nested.ensures c.level-level.result.now c.level-level.ensures.value t;
  };
}

pub returns-clause-masks : goal.returns-clause-masks
returns-clause-masks c before h =
    let e = c.args.encounter.now in
    let w = whole_ends e.config.now in
    let on : (n : ℕ) → (masks : List ℕ) → Type 0 = λ n masks. AreMarked e.config.now e.own.now e.aircraft.now c.args.first n c.args.l before masks in
    let present = subst (λ (n : ℕ). on n c.mark_present.new.masks) (track_first e.config.now) (c.mark_present.ensures.masks before h) in
    let tracks = subst (λ (n : ℕ). on n c.mark_kind.new.masks) (sym (begins e.config.now).speed) (c.mark_kind.ensures.masks before present) in
    let speeds = subst (λ (n : ℕ). on n c.mark_kind-2.new.masks) (sym (begins e.config.now).climb) (c.mark_kind-2.ensures.masks before tracks) in
    let climbs = subst (λ (n : ℕ). on n c.mark_kind-3.new.masks) (sym (begins e.config.now).height) (c.mark_kind-3.ensures.masks before speeds) in
    marked_all e.config.now e.own.now e.aircraft.now c.args.first c.args.l before c.mark_kind-4.new.masks (start_of Altitude e.config.now + length (values_of Altitude e.config.now))
    (omega (arith, w)) (c.mark_kind-4.ensures.masks before climbs)
