-- How large the numbers of a moment, and of error bounds, are.
use Rattle.std.proofs.Common.{◌≡◌, ℕ, ◌+◌, ◌*◌, ◌^◌, ◌≤◌, arith, ℤ, pos, ◌+ℤ◌, ◌*ℤ◌, ◌≤ℤ◌, lit<, w64, to_z, of_z, to_z-of_z}
use Rattle.std.proofs.lemmas.Int.{ints}
use mir.Syntax.{w128}
use Rattle.daa_fixed.specs.Size.{IsWithin}
use Rattle.daa_fixed.proofs.Bounds.{times, plus, fits, within}
use Rattle.daa_margin.specs.declared.moment.Moment.{Moment}

pub record IsMomentInRange (m : Moment) : Type 0 where
  pub n0 : pos 0 ≤ℤ m.num
  pub n1 : m.num ≤ℤ pos (2 ^ 42)
  pub d0 : pos 1 ≤ℤ m.den
  pub d1 : m.den ≤ℤ pos (2 ^ 33)

module _ {m : Moment} (t : IsMomentInRange m) where
  pub n : IsWithin (2 ^ 42) m.num
  n = within (2 ^ 42) m.num (omega (arith, ints, t.n0)) t.n1

  pub d : IsWithin (2 ^ 33) m.den
  d = within (2 ^ 33) m.den (omega (arith, ints, t.d0)) t.d1

-- a number of seconds, or a bound, in 64 bits
pub small_kept : (k : ℕ) → k ≤ 40000000 → to_z w64 k ≡ pos k
small_kept k h = omega (arith, ints)

-- and in 128
pub wide_kept : (k : ℕ) → k ≤ 40000000 → to_z w128 k ≡ pos k
wide_kept k h = omega (arith, ints)
