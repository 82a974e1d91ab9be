-- The parts of an age.
use Rattle.std.specs.Prelude.{◌≡◌, ◌*◌, ℕ, ℤ, pos, neg_ℤ, ◌+ℤ◌, ◌<ℤ◌}
use Rattle.daa_fixed.specs.Size.{IsFrom}

-- whole seconds and what is left of an age in milliseconds
pub record AreParts (age : ℤ) (seconds : ℕ) (rest : ℤ) : Type 0 where
  pub parts : age ≡ pos (1000 * seconds) +ℤ rest
  pub range : IsFrom (neg_ℤ (pos 1000)) (pos 999) rest
  pub back : rest <ℤ pos 0 → seconds ≡ 0
