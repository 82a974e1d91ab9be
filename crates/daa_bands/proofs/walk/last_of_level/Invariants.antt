use Rattle.std.proofs.Common.{◌≡◌, ◌<◌, ◌≤◌, ◌+◌, ◌-◌, ℕ}
use Rattle.std.specs.Prelude.{slice_index}
use Rattle.daa_bands.specs.Walk.{shown_of}
use Rattle.daa_bands.proofs.walk.last_of_level.Given as goal

abbrev pub invariant-loop-last : goal.invariant-loop-last
invariant-loop-last l = record {
  later : l.first ≤ l.last;
  within : l.last < l.count;
  same : (i : ℕ) → l.first ≤ i → i ≤ l.last → shown_of (slice_index l.board (l.start + i)) ≡ l.level;
}

abbrev pub decreases-loop-last : goal.decreases-loop-last
decreases-loop-last l = l.count - l.last
