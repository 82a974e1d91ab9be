use Rattle.std.proofs.Common.{◌≡◌, ◌≤◌, ◌-◌, length}
use Rattle.daa_replay.specs.Inside.Batch.{AddsTexts}
use Rattle.daa_replay.specs.Inside.Events.{HasLines}
use Rattle.daa_replay.specs.Inside.Checkpoint.{reading, reading_at}
use Rattle.daa_replay.proofs.lane.Lane.add_moment.Given as goal

-- the texts so far were added
abbrev pub invariant-loop-done : goal.invariant-loop-done
invariant-loop-done g l = record {
  within : l.done ≤ length l.piece;
  forward : l.fn.from.done ≤ l.done;
  lines : HasLines (length l.piece - l.done) l.lines;
  added : AddsTexts l.config l.piece (reading_at l.fn.from) (reading l.done l.lines l.moments) l.refused l.fn.self.sheet.text l.self.sheet.text;
  parts : l.self.parts.items ≡ l.fn.self.parts.items;
}

abbrev pub decreases-loop-done : goal.decreases-loop-done
decreases-loop-done g l = length l.piece - l.done
