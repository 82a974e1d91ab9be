use Rattle.std.proofs.Common.{◌≡◌, ◌≤◌, ◌+◌, ◌-◌, ◌*◌, All, IfSome, length}
use Rattle.daa_ahead.specs.Bytes.{stream_state}
use Rattle.daa_judge.specs.Matching.{HasRoom}
use Rattle.daa_judge.specs.declared.found.Found.TheVariants as found
use Rattle.daa_replay.specs.Inside.Batch.{IsFilled}
use Rattle.daa_replay.specs.Inside.Events.{HasLines}
use Rattle.daa_replay.specs.Inside.Judge.{ComparesBetween}
use Rattle.daa_replay.specs.Inside.Checkpoint.{IsCheckpoint, reading, reading_at}
use Rattle.daa_replay.proofs.CheckpointLemmas.{steps-at}
use Rattle.daa_replay.proofs.judge.judge_together.Given as goal

-- the texts so far matched; where it stands between two moments, the place is known
abbrev pub invariant-loop-done : goal.invariant-loop-done
invariant-loop-done g l = record {
  filled : All (IsFilled l.fn.engine.settings l.piece) l.batch.lanes.items;
  same : l.engine.settings ≡ l.fn.engine.settings;
  left : l.progress.left ≡ l.fn.progress.left;
  within : l.done ≤ length l.piece;
  lines : HasLines (length l.piece - l.done) l.progress.lines;
  here : IfSome l.here (λ place. reading l.done l.progress.lines l.progress.moments ≡ reading_at place);
  there : IfSome l.here (IsCheckpoint l.piece);
  room : HasRoom l.comparison.matching;
  never_falls : g.S.Source.faults l.fn.source ≤ g.S.Source.faults l.source;
  matched : ComparesBetween l.fn.engine.settings l.piece (reading 0 l.fn.progress.lines l.fn.progress.moments) (reading l.done l.progress.lines l.progress.moments) found.Alike
      l.fn.comparison.matching l.comparison.matching
      (stream_state (g.S.Source.left l.fn.source) (g.S.Source.faults l.fn.source)) (stream_state (g.S.Source.left l.source) (g.S.Source.faults l.source));
}

abbrev pub decreases-loop-done : goal.decreases-loop-done
decreases-loop-done g l = 2 * (length l.piece - l.done) + steps-at l.here
