-- Open candidates.
use Rattle.std.specs.Prelude.{◌≤◌, ℕ, pos, ◌≤ℤ◌, length}
use Rattle.daa_config.specs.Settings.{Settings}

-- the candidate at an index is covered at no level from `resolve` up to the greatest
abbrev pub IsOpen : (ℕ → ℕ → Type 0) → Settings → ℕ → Type 0
IsOpen Covered settings index = (l : ℕ) → settings.numbers.resolve ≤ℤ pos l → l ≤ length settings.levels → Covered index l → ⊥
