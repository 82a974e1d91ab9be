-- Vectors that are not large fit words of 64 bits, and so do their sums and differences.
use Rattle.std.proofs.Common.{ℕ, ◌+◌, ◌^◌, ◌<◌, ℤ, ◌+ℤ◌, ◌-ℤ◌, unsigned_abs, FitsSigned, w64}
use mir.Val.{hbits}
use Rattle.daa_fixed.specs.declared.Solid.{Solid}
use Rattle.daa_fixed.specs.Leg as vector
use Rattle.daa_fixed.proofs.Bounds.{fits, below, plus, minus}

pub record FitsWords (x : Solid) : Type 0 where
  pub east : FitsSigned w64 x.flat.east
  pub north : FitsSigned w64 x.flat.north
  pub up : FitsSigned w64 x.up

pub fits_words : {m : ℕ} {x : Solid} → vector.IsSolidBelow m x → m < 2 ^ hbits w64 → FitsWords x
fits_words h b = record { east = fits w64 (below h.east) b; north = fits w64 (below h.north) b; up = fits w64 (below h.up) b }

module _ {m n : ℕ} (b : m + n < 2 ^ hbits w64) where
  add : (p q : ℤ) → unsigned_abs p < m → unsigned_abs q < n → FitsSigned w64 (p +ℤ q)
  add p q h k = fits w64 (plus {a = p} {b = q} (below h) (below k)) b

  subtract : (p q : ℤ) → unsigned_abs p < m → unsigned_abs q < n → FitsSigned w64 (p -ℤ q)
  subtract p q h k = fits w64 (minus {a = p} {b = q} (below h) (below k)) b

  module _ {x y : Solid} (h : vector.IsSolidBelow m x) (k : vector.IsSolidBelow n y) where
    pub sum_fits : FitsWords (vector.plus x y)
    sum_fits = record { east = add x.flat.east y.flat.east h.east k.east; north = add x.flat.north y.flat.north h.north k.north; up = add x.up y.up h.up k.up }

    pub difference_fits : FitsWords (vector.minus x y)
    difference_fits = record { east = subtract x.flat.east y.flat.east h.east k.east; north = subtract x.flat.north y.flat.north h.north k.north; up = subtract x.up y.up h.up k.up }
