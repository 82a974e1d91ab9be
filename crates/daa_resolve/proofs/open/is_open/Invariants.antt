use Rattle.std.proofs.Common.{◌<◌, ℕ, pos, ◌≤ℤ◌}
use Rattle.daa_fixed.specs.Mask.{HasLevel}
use Rattle.daa_resolve.proofs.open.is_open.Given as goal

-- none of the levels before is set
abbrev pub invariant-loop-level : goal.invariant-loop-level
invariant-loop-level l = (k : ℕ) → l.config.numbers.resolve ≤ℤ pos k → k < l.level → HasLevel l.mask k → ⊥
