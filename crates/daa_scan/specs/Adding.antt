-- Levels added to those of a mask.
use Rattle.std.specs.Prelude.{◌≤◌, ◌↔◌, ◌⊎◌, ℕ}
use Rattle.daa_fixed.specs.Mask.{HasLevel}

-- the new mask has the levels of the old one and those up to top at which something holds, and no other
abbrev pub AddsLevels : (Holds : ℕ → Type 0) → (top old new : ℕ) → Type 0
AddsLevels Holds top old new = (l : ℕ) → 1 ≤ l → HasLevel new l ↔ (HasLevel old l ⊎ ((l ≤ top) × Holds l))
