-- When a condition holds over a leg, as one interval.
use Rattle.std.specs.Prelude.{ℕ, ℤ, pos, ◌≤ℤ◌, ◌↔◌}
use Rattle.daa_fixed.specs.Point.{IsBetween}
use Rattle.daa_fixed.specs.Time.{IsTime}
use Rattle.daa_fixed.specs.declared.Point.{Point}

-- P holds at p, at q, at each time of the leg between them, and at no other
pub record IsWindow (secs : ℕ) (P : ℤ → ℤ → Type 0) (p q : Point) : Type 0 where
  pub first : IsTime secs p.num p.den
  pub last : IsTime secs q.num q.den
  pub holds_first : P p.num p.den
  pub holds_last : P q.num q.den
  pub exact : (n d : ℤ) → IsTime secs n d → (P n d ↔ IsBetween p q n d)

-- the numbers of the time are small enough to be multiplied with those of a leg in 64 bits: den is at most 40000, which no vertical
-- speed reaches, and num 180 times that
pub record HasSmallNumbers (p : Point) : Type 0 where
  pub num : p.num ≤ℤ pos 7200000
  pub den : p.den ≤ℤ pos 40000
