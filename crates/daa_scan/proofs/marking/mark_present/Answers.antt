use Rattle.std.proofs.Common.{◌≡◌, ◌+◌, ◌<◌, ℕ, length, subst, arith, slice_set}
use Rattle.std.specs.Prelude.{slice_index}
use Rattle.daa_scan.specs.Inside.Marking.{AreMarked, AddsNext}
use Rattle.daa_scan.specs.Inside.Rounds.{settings_in, own_in, aircraft_in}
use Rattle.daa_scan.proofs.Marks.{marked_none, marked_on, marked_next}
use Rattle.daa_scan.proofs.marking.mark_present.Goals as goal
use Rattle.daa_scan.proofs.marking.mark_present.Goals.{else-first-eq0-via-then-first-eq0+else-masks-gt0, else-first-eq0-via-else-first-eq0}

pub returns-then-masks-gt0-clause-masks : goal.returns-then-masks-gt0-clause-masks
returns-then-masks-gt0-clause-masks c before h =
    let r = c.args.round.now in
    let none : 0 ≡ c.args.first + 0 = omega (arith, c.if-first-eq0.true) in
    let one : c.args.first + 0 + 1 ≡ 1 = omega (arith, c.if-first-eq0.true) in
    let next = subst (λ (n : ℕ). AddsNext r n (slice_index c.args.masks.now 0) c.present_mask.result) none c.present_mask.ensures in
    subst (λ (n : ℕ). AreMarked (settings_in r) (own_in r) (aircraft_in r) c.args.first n r.l before (slice_set c.args.masks.now 0 c.present_mask.result)) one
    (marked_next (settings_in r) (own_in r) (aircraft_in r) c.args.first r.l before c.args.masks.now 0 c.present_mask.result (omega (arith, c.if-masks-gt0.true))
    (λ is. next (slice_index before 0) is)
    (subst (λ (n : ℕ). AreMarked (settings_in r) (own_in r) (aircraft_in r) c.args.first n r.l before c.args.masks.now) none
    (marked_none (settings_in r) (own_in r) (aircraft_in r) c.args.first r.l before c.args.masks.now h)))

pub returns-else-first-eq0-clause-masks : goal.returns-else-first-eq0-clause-masks
returns-else-first-eq0-clause-masks c before h =
    let r = c.args.round.now in
    let outside : (j : ℕ) → j < length c.args.masks.now → c.args.first + j < 1 → c.args.first + j < 0 = λ j b d. elim c.else-first-eq0.branch [
      | else-first-eq0-via-then-first-eq0+else-masks-gt0 w ↦ omega (arith, w.if-masks-gt0.false, b)
      | else-first-eq0-via-else-first-eq0 w ↦ omega (arith, w.if-first-eq0.false, d)
    ] in
    marked_on (settings_in r) (own_in r) (aircraft_in r) c.args.first r.l before c.args.masks.now 0 1 outside (λ j b u. omega arith)
    (marked_none (settings_in r) (own_in r) (aircraft_in r) c.args.first r.l before c.args.masks.now h)
