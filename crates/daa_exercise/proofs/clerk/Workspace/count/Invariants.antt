use Rattle.std.proofs.Common.{◌≡◌, ◌-◌}
use Rattle.daa_exercise.specs.Inside.Counting.{AreCounted}
use Rattle.daa_exercise.specs.Outputs.{outputs_of}
use Rattle.daa_exercise.proofs.clerk.Workspace.count.Given as goal

-- the moments so far are counted, and this is the next
abbrev pub invariant-loop-time : goal.invariant-loop-time
invariant-loop-time g l = record {
  counted : AreCounted l.config (outputs_of l.fn.sequence.seed) l.from (l.time - l.from) l.counts;
  at : l.sequence.time ≡ l.time;
  seed : l.sequence.seed ≡ l.fn.sequence.seed;
}
