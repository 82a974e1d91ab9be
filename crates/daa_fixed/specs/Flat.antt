-- Horizontal vectors: their exact products, and which are short enough to be multiplied.
use Rattle.std.specs.Prelude.{ℤ, ◌+ℤ◌, ◌-ℤ◌, ◌*ℤ◌, unsigned_abs, ◌<◌, ◌^◌}
use Rattle.daa_fixed.specs.declared.Flat.{Flat}

-- the dot product
abbrev pub dot_of : Flat → Flat → ℤ
dot_of x y = x.east *ℤ y.east +ℤ x.north *ℤ y.north

-- the cross product, x before y
abbrev pub cross_of : Flat → Flat → ℤ
cross_of x y = x.east *ℤ y.north -ℤ x.north *ℤ y.east

-- the square of a number
abbrev pub square_of : ℤ → ℤ
square_of z = z *ℤ z

-- each component is below 2^60 in size, so that the products fit
pub record IsShort (x : Flat) : Type 0 where
  pub east : unsigned_abs x.east < 2 ^ 60
  pub north : unsigned_abs x.north < 2 ^ 60
