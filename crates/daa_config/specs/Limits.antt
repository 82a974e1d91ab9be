-- Bounds of numbers, and a full turn.
use Rattle.std.specs.Prelude.{ℕ, ℤ}
use Rattle.daa_config.specs.declared.limits.Bounds.{Bounds}

-- the numbers from low to high
abbrev pub from_to : ℤ → ℤ → Bounds
from_to low high = record { low = low; high = high }

-- degrees of a full turn
abbrev pub full_turn : ℕ
full_turn = 360
