use Rattle.std.proofs.Common.{◌≤◌, ◌-◌, All, length}
use Rattle.daa_ahead.specs.Bytes.{stream_state}
use Rattle.daa_judge.specs.Matching.{HasRoom}
use Rattle.daa_judge.specs.declared.found.Found.TheVariants as found
use Rattle.daa_replay.specs.Inside.Batch.{IsFilled}
use Rattle.daa_replay.specs.Inside.Judge.{ComparesBetween}
use Rattle.daa_replay.specs.Inside.Checkpoint.{IsCheckpoint, reading_at}
use Rattle.daa_replay.proofs.judge.judge_parts.Given as goal

-- the texts up to a place matched
abbrev pub invariant-loop-upto : goal.invariant-loop-upto
invariant-loop-upto g l = record {
  filled : All (IsFilled l.config l.piece) l.batch.lanes.items;
  there : IsCheckpoint l.piece l.upto;
  forward : l.fn.from.done ≤ l.upto.done;
  room : HasRoom l.matching;
  never_falls : g.S.Source.faults l.fn.source ≤ g.S.Source.faults l.source;
  matched : ComparesBetween l.config l.piece (reading_at l.fn.from) (reading_at l.upto) found.Alike l.fn.matching l.matching
      (stream_state (g.S.Source.left l.fn.source) (g.S.Source.faults l.fn.source)) (stream_state (g.S.Source.left l.source) (g.S.Source.faults l.source));
}

abbrev pub decreases-loop-upto : goal.decreases-loop-upto
decreases-loop-upto g l = length l.piece - l.upto.done
