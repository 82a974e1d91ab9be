use Rattle.std.proofs.Common.{◌≡◌, ◌≤◌, ◌-◌, All, length}
use Rattle.daa_replay.specs.Inside.Batch.{IsFilled, Shares}
use Rattle.daa_replay.specs.Inside.Checkpoint.{IsCheckpoint, reading_at}
use Rattle.daa_replay.proofs.batch.write_parts.Given as goal

-- the texts up to a place were taken
abbrev pub invariant-loop-reach : goal.invariant-loop-reach
invariant-loop-reach g l = record {
  filled : All (IsFilled l.config l.piece) l.batch.lanes.items;
  there : IsCheckpoint l.piece l.reach.upto;
  forward : l.fn.from.done ≤ l.reach.upto.done;
  shares : Shares l.config l.piece (reading_at l.fn.from) (reading_at l.reach.upto) l.reach.refused (g.K.Sink.taken l.fn.sink) (g.K.Sink.taken l.sink);
  calm : g.K.Sink.faults l.sink ≡ g.K.Sink.faults l.fn.sink;
}

abbrev pub decreases-loop-reach : goal.decreases-loop-reach
decreases-loop-reach g l = length l.piece - l.reach.upto.done
