-- Levels at which something holds: all of them, as a mask, and the greatest.
use Rattle.std.specs.Prelude.{◌≡◌, ◌<◌, ◌≤◌, ◌-◌, ◌↔◌, ℕ}
use Rattle.std.specs.Int.{bit_at}

-- bit l - 1 of a mask means level l, from 1 on
abbrev pub HasLevel : ℕ → ℕ → Type 0
HasLevel mask level = bit_at mask (level - 1) ≡ 1

-- the greatest level from 1 to top at which something holds, or 0 where it holds at none
pub record IsGreatestLevel (Holds : ℕ → Type 0) (top level : ℕ) : Type 0 where
  pub within : level ≤ top
  pub holds : 0 < level → Holds level
  pub none_above : (l : ℕ) → level < l → l ≤ top → Holds l → ⊥

-- a mask has exactly the levels from 1 to top at which something holds
pub record IsMaskOf (Holds : ℕ → Type 0) (top mask : ℕ) : Type 0 where
  pub each : (l : ℕ) → 1 ≤ l → l ≤ top → HasLevel mask l ↔ Holds l
  pub none_above : (l : ℕ) → top < l → HasLevel mask l → ⊥
