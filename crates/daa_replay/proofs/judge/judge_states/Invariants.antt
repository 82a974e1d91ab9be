use Rattle.std.proofs.Common.{◌≡◌, ◌≤◌, ◌+◌, ◌-◌, length}
use Rattle.daa_ahead.specs.Bytes.{stream_state}
use Rattle.daa_judge.specs.Matching.{HasRoom}
use Rattle.daa_replay.specs.Inside.Events.{events_at_end}
use Rattle.daa_replay.specs.Inside.Judge.{Matches}
use Rattle.daa_replay.proofs.judge.judge_states.Given as goal

abbrev pub invariant-loop-progress : goal.invariant-loop-progress
invariant-loop-progress g l = record {
  same : l.engine.settings ≡ l.fn.engine.settings;
  room : HasRoom l.comparison.matching;
  never_falls : g.S.Source.faults l.fn.source ≤ g.S.Source.faults l.source;
  matched : Matches l.fn.engine.settings l.states l.done l.progress l.fn.comparison.matching l.comparison.matching
      (stream_state (g.S.Source.left l.fn.source) (g.S.Source.faults l.fn.source)) (stream_state (g.S.Source.left l.source) (g.S.Source.faults l.source));
}

abbrev pub decreases-loop-progress : goal.decreases-loop-progress
decreases-loop-progress g l = (length l.states - l.done) + events_at_end l.progress.left
