use Rattle.std.proofs.Common.{◌≡◌, ◌-◌, vec_capacity, vec_len}
use Rattle.std.specs.List.{All}
use Rattle.daa_exercise.specs.Inside.Stints.{IsStint}
use Rattle.daa_exercise.proofs.clerk.Clerk.work.Given as goal

-- the parts so far are parts of the seed's moments
abbrev pub invariant-loop-sequence : goal.invariant-loop-sequence
invariant-loop-sequence g l = record {
  parts : All (IsStint l.config l.seed) l.self.parts.items;
  seed : l.sequence.seed ≡ l.seed;
}

abbrev pub decreases-loop-sequence : goal.decreases-loop-sequence
decreases-loop-sequence g l = vec_capacity l.self.parts - vec_len l.self.parts
