use Rattle.std.proofs.Common.{◌-◌, ◌≡◌, ◌<◌, ◌≤◌, ℕ, length, false}
use Rattle.std.specs.Prelude.{slice_index, ◌==◌}
use Rattle.daa_lines.proofs.lines.growth.Given as goal

-- so many bytes, none of which is a line feed
abbrev pub invariant-loop-count : goal.invariant-loop-count
invariant-loop-count l = record {
  within : l.count ≤ length l.piece;
  few : l.count ≤ l.most;
  none : (j : ℕ) → j < l.count → (slice_index l.piece j == 10) ≡ false;
}

abbrev pub decreases-loop-count : goal.decreases-loop-count
decreases-loop-count l = l.most - l.count
