-- The order of fractions, cross-multiplied.
use Rattle.std.specs.Prelude.{ℤ, pos, ◌*ℤ◌, ◌≤ℤ◌, ◌<ℤ◌}
use Rattle.daa_fixed.specs.declared.Point.{Point}

-- p is before q, as fractions
abbrev pub IsBefore : Point → Point → Type 0
IsBefore p q = (p.num *ℤ q.den) <ℤ (q.num *ℤ p.den)

-- p is not after q
abbrev pub IsInOrder : Point → Point → Type 0
IsInOrder p q = (p.num *ℤ q.den) ≤ℤ (q.num *ℤ p.den)

-- n/d is a fraction, not before p and not after q
pub record IsBetween (p q : Point) (n d : ℤ) : Type 0 where
  pub fraction : pos 1 ≤ℤ d
  pub from : (p.num *ℤ d) ≤ℤ (n *ℤ p.den)
  pub upto : (n *ℤ q.den) ≤ℤ (q.num *ℤ d)
