use Rattle.std.proofs.Common.{◌≡◌, ◌≤◌, ◌-◌}
use Rattle.daa_exercise.proofs.sequence.Sequence.go_to.Given as goal

-- the moment of the time is not left behind
abbrev pub invariant-loop-self : goal.invariant-loop-self
invariant-loop-self l = record {
  within : l.self.time ≤ l.time;
  seed : l.self.seed ≡ l.fn.self.seed;
}

abbrev pub decreases-loop-self : goal.decreases-loop-self
decreases-loop-self l = l.time - l.self.time
