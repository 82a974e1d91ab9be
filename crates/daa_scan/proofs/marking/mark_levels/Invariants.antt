use Rattle.daa_scan.specs.Inside.Marking.{AreMasks, AreStretchesAt}
use Rattle.daa_scan.proofs.marking.mark_levels.Given as goal

-- the levels so far were added
abbrev pub invariant-loop-done : goal.invariant-loop-done
invariant-loop-done l = record {
  masks : AreMasks l.encounter.config.now l.encounter.own.now l.encounter.aircraft.now l.first l.done l.initial.masks l.masks;
  stretches : AreStretchesAt l.encounter.config.now l.encounter.own.now l.encounter.aircraft.now l.done l.stretches;
}
