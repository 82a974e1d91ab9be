use Rattle.std.proofs.Common.{◌≡◌, ◌<◌, ◌≤◌, ◌+◌, ℕ, length, slice_index}
use Rattle.daa_exercise.proofs.tally.add_counts.Given as goal

-- the counts of the levels so far are added, and the others are as they were
abbrev pub invariant-loop-level : goal.invariant-loop-level
invariant-loop-level l = record {
  same_length : length l.counts ≡ length l.initial.counts;
  sums : (k : ℕ) → k < l.level → slice_index l.counts k ≡ slice_index l.initial.counts k + slice_index l.others k;
  left : (k : ℕ) → l.level ≤ k → slice_index l.counts k ≡ slice_index l.initial.counts k;
}
