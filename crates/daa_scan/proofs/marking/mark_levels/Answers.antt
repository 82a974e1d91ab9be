use Rattle.std.proofs.Common.{◌≡◌, ◌+◌, ◌-◌, ℕ, subst, arith, length}
use Rattle.daa_scan.specs.Inside.Marking.{AreMasks, AreStretchesAt}
use Rattle.daa_scan.proofs.Marks.{masks_start}
use Rattle.daa_scan.proofs.marking.mark_levels.Goals as goal

pub loop-done-init : goal.loop-done-init
loop-done-init c =
    let e = c.args.encounter.now in
    record {
      masks = masks_start e.config.now e.own.now e.aircraft.now c.args.first c.args.masks.now;
      stretches = c.stretches_of-stretches.ensures e.own.now e.aircraft.now;
    }

pub mark_level-requires-clause-stretches : goal.mark_level-requires-clause-stretches
mark_level-requires-clause-stretches c =
    let e = c.args.encounter.now in
    let before : c.loop-done.done ≡ c.loop-done.done + 1 - 1 = omega arith in
    subst (λ (n : ℕ). AreStretchesAt e.config.now e.own.now e.aircraft.now n c.loop-done.stretches) before c.loop-done.invariant.stretches

pub loop-done-preserved : goal.loop-done-preserved
loop-done-preserved c =
    let e = c.args.encounter.now in
    let before : c.loop-done.done ≡ c.loop-done.done + 1 - 1 = omega arith in
    record {
      masks = c.mark_level.ensures.masks c.args.masks.now
          (subst (λ (n : ℕ). AreMasks e.config.now e.own.now e.aircraft.now c.args.first n c.args.masks.now c.loop-done.masks) before c.loop-done.invariant.masks);
      stretches = c.mark_level.ensures.stretches;
    }

pub returns-clause-masks : goal.returns-clause-masks
returns-clause-masks c =
    let e = c.args.encounter.now in
    let all : c.loop-done.done ≡ length e.config.now.levels = omega (arith, c.loop-done-test.false, c.loop-done.auto.done-end, c.levels-done-end.ensures.value) in
    subst (λ (n : ℕ). AreMasks e.config.now e.own.now e.aircraft.now c.args.first n c.args.masks.now c.loop-done.masks) all c.loop-done.invariant.masks
