use Rattle.std.proofs.Common.{◌≡◌, ◌+◌, ◌-◌, ◌<◌, ◌≤◌, ℕ}
use Rattle.std.specs.Prelude.{slice_index}
use Rattle.std.specs.Int.{bit_at}
use Rattle.daa_scan.proofs.marking.some_has_level.Given as goal

-- what a mask so far has, they have together
abbrev pub invariant-loop-index : goal.invariant-loop-index
invariant-loop-index l = (j : ℕ) → l.from ≤ l.first + j → l.first + j < l.index → bit_at (slice_index l.masks j) (l.fn.l - 1) ≡ 1 → bit_at l.all (l.fn.l - 1) ≡ 1
