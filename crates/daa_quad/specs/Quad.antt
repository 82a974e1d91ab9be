-- Quadratics of a time n/d: value, sign, and least value between two times.
use Rattle.std.specs.Prelude.{◌≡◌, ℤ, pos, ◌+ℤ◌, ◌*ℤ◌, neg_ℤ, ◌^◌, ◌≤ℤ◌, ◌<ℤ◌}
use Rattle.daa_quad.specs.declared.Quad.{Quad}
use Rattle.daa_quad.specs.declared.Sign.{Sign}
use Rattle.daa_quad.specs.declared.Sign.TheVariants.{Below, Zero, Above}
use Rattle.daa_fixed.specs.declared.Point.{Point}
use Rattle.daa_fixed.specs.Point.{IsBetween}

-- the value at n/d, times d^2
abbrev pub value_of : Quad → ℤ → ℤ → ℤ
value_of q n d = q.a *ℤ n *ℤ n +ℤ q.b *ℤ n *ℤ d +ℤ q.c *ℤ d *ℤ d

-- on which side of zero z lies
abbrev pub IsSignOf : ℤ → Sign → Type 0
IsSignOf z Below = z <ℤ pos 0
IsSignOf z Zero = z ≡ pos 0
IsSignOf z Above = pos 0 <ℤ z

-- no fraction between the two has a lesser value than n/d
abbrev pub IsLeast : Quad → Point → Point → ℤ → ℤ → Type 0
IsLeast q from upto n d = (m e : ℤ) → IsBetween from upto m e → (value_of q n d *ℤ (e *ℤ e)) ≤ℤ (value_of q m e *ℤ (d *ℤ d))

-- n/d lies between the two, and the value there is at most 0
pub record IsDip (q : Quad) (from upto : Point) (n d : ℤ) : Type 0 where
  pub between : IsBetween from upto n d
  pub not_above : value_of q n d ≤ℤ pos 0

-- the value is above 0 at every fraction between the two
abbrev pub IsAboveBetween : Quad → Point → Point → Type 0
IsAboveBetween q from upto = (n d : ℤ) → IsBetween from upto n d → pos 0 <ℤ value_of q n d

-- the vertex -b/2a, where it lies between the two, is a point in range
abbrev pub HasVertexInRange : Quad → Point → Point → Type 0
HasVertexInRange q from upto = pos 1 ≤ℤ q.a → IsBetween from upto (neg_ℤ q.b) (pos 2 *ℤ q.a) → neg_ℤ q.b ≤ℤ pos (2 ^ 41)
