use Rattle.daa_replay.specs.Inside.Batch.{IsFilled}
use Rattle.daa_replay.proofs.lane.Lane.fill.Given as goal

-- each part so far has its texts
abbrev pub invariant-loop : goal.invariant-loop
invariant-loop g l = IsFilled l.config l.piece l.self
