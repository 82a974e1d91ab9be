-- How many whole seconds a change takes.
use Rattle.std.specs.Prelude.{ℕ, ◌+◌, ◌<◌, ℤ, pos, ◌*ℤ◌, ◌≤ℤ◌}

-- n whole seconds at the rate fit into the way, and not two more
pub record IsWholeLegs (way rate : ℤ) (n : ℕ) : Type 0 where
  pub before : (k : ℕ) → k < n → (pos (k + 1) *ℤ rate) ≤ℤ way
  pub after : (k : ℕ) → n < k → way ≤ℤ (pos k *ℤ rate)
