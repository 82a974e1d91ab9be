use Rattle.std.proofs.Common.{◌≡◌, ◌-◌}
use Rattle.daa_replay.specs.Inside.Batch.{AddsTexts}
use Rattle.daa_replay.specs.Inside.Checkpoint.{IsCheckpoint, reading, reading_at}
use Rattle.daa_replay.proofs.lane.Lane.add_moments.Given as goal

-- the texts up to a place were added, where the next moment begins
abbrev pub invariant-loop-reach : goal.invariant-loop-reach
invariant-loop-reach g l = record {
  there : IsCheckpoint l.piece l.reach.upto;
  stands : reading l.reach.upto.done l.lines l.moments ≡ reading_at l.reach.upto;
  added : AddsTexts l.config l.piece (reading_at l.fn.from) (reading_at l.reach.upto) l.reach.refused l.fn.self.sheet.text l.self.sheet.text;
  parts : l.self.parts.items ≡ l.fn.self.parts.items;
}

abbrev pub decreases-loop-reach : goal.decreases-loop-reach
decreases-loop-reach g l = l.until - l.reach.upto.done
