-- What holds at some time between two times.
use Rattle.std.specs.Prelude.{ℤ, pos, ◌*ℤ◌, ◌≤ℤ◌}

-- P holds at some time from n/d to m/e
pub record HoldsBetween (P : ℤ → ℤ → Type 0) (n d m e : ℤ) : Type 0 where
  pub num : ℤ
  pub den : ℤ
  pub fraction : pos 1 ≤ℤ den
  pub from : (n *ℤ den) ≤ℤ (num *ℤ d)
  pub upto : (num *ℤ e) ≤ℤ (m *ℤ den)
  pub holds : P num den
