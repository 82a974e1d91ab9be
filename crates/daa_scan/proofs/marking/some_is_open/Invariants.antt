use Rattle.std.proofs.Common.{◌≡◌, ◌+◌, ◌<◌, ◌≤◌, ℕ}
use Rattle.std.specs.Prelude.{slice_index}
use Rattle.std.specs.Int.{bit_at}
use Rattle.daa_scan.proofs.marking.some_is_open.Given as goal

-- what a mask so far has, they have together; what they all have, each has
abbrev pub invariant-loop-i : goal.invariant-loop-i
invariant-loop-i l = record {
  some : (j k : ℕ) → l.at ≤ j → j < l.at + l.i → bit_at (slice_index l.masks j) k ≡ 1 → bit_at l.some k ≡ 1;
  all : (j k : ℕ) → l.at ≤ j → j < l.at + l.i → bit_at l.all k ≡ 1 → bit_at (slice_index l.masks j) k ≡ 1;
}
