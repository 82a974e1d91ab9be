use Rattle.std.proofs.Common.{◌≡◌, ◌≤◌, ◌+◌, ◌-◌, ◌*◌, All, IfSome, length}
use Rattle.daa_replay.specs.Inside.Batch.{IsFilled, Shares}
use Rattle.daa_replay.specs.Inside.Events.{HasLines}
use Rattle.daa_replay.specs.Inside.Checkpoint.{IsCheckpoint, reading, reading_at}
use Rattle.daa_replay.proofs.CheckpointLemmas.{steps-at}
use Rattle.daa_replay.proofs.batch.write_together.Given as goal

-- the texts so far were taken; where it stands between two moments, the place is known
abbrev pub invariant-loop-done : goal.invariant-loop-done
invariant-loop-done g l = record {
  filled : All (IsFilled l.fn.engine.settings l.piece) l.batch.lanes.items;
  same : l.engine.settings ≡ l.fn.engine.settings;
  within : l.done ≤ length l.piece;
  lines : HasLines (length l.piece - l.done) l.lines;
  here : IfSome l.here (λ place. reading l.done l.lines l.moments ≡ reading_at place);
  there : IfSome l.here (IsCheckpoint l.piece);
  shares : Shares l.fn.engine.settings l.piece (reading 0 l.fn.lines l.fn.moments) (reading l.done l.lines l.moments) l.refused (g.K.Sink.taken l.fn.sink) (g.K.Sink.taken l.sink);
  calm : g.K.Sink.faults l.sink ≡ g.K.Sink.faults l.fn.sink;
}

abbrev pub decreases-loop-done : goal.decreases-loop-done
decreases-loop-done g l = 2 * (length l.piece - l.done) + steps-at l.here
