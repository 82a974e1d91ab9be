use Rattle.daa_scan.specs.Inside.Needs.{NeedsMore}
use Rattle.daa_scan.proofs.Needed.{AreIdleBelow}
use Rattle.daa_scan.proofs.needs.with_levels.Given as goal

-- a kind that is not needed does not meet the aircraft at the levels so far
abbrev pub invariant-loop-done : goal.invariant-loop-done
invariant-loop-done l = record {
  more : NeedsMore l.fn.needs l.all;
  below : AreIdleBelow l.encounter.config.now l.encounter.own.now l.encounter.aircraft.now l.done l.all;
}
