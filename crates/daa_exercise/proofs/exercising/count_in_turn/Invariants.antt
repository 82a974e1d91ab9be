use Rattle.std.proofs.Common.{◌≡◌}
use Rattle.daa_exercise.specs.Inside.Counting.{AreCounted}
use Rattle.daa_exercise.specs.Outputs.{outputs_of}
use Rattle.daa_exercise.proofs.exercising.count_in_turn.Given as goal

-- the moments so far are counted, and this is the next
abbrev pub invariant-loop-time : goal.invariant-loop-time
invariant-loop-time g l = record {
  kept : l.engine ≡ record l.fn.engine { board = l.engine.board };
  counted : AreCounted l.fn.engine.settings (outputs_of l.seed) 0 l._time l.counts;
  at : l.sequence.time ≡ l._time;
  seed : l.sequence.seed ≡ l.seed;
}
