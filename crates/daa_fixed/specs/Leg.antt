-- Which legs are in range, and sums and multiples of vectors with a height.
use Rattle.std.specs.Prelude.{ℕ, zero, suc, ℤ, pos, ◌+ℤ◌, ◌-ℤ◌, ◌*ℤ◌, unsigned_abs, ◌<◌, ◌≤◌}
use Rattle.daa_fixed.specs.declared.Solid.{Solid}
use Rattle.daa_fixed.specs.declared.Leg.{Leg}

-- a leg of 1 to 180 seconds, its place below 40000000 and its velocity below 40000 on each axis
pub record IsLegInRange (leg : Leg) : Type 0 where
  pub east : unsigned_abs leg.place.flat.east < 40000000
  pub north : unsigned_abs leg.place.flat.north < 40000000
  pub up : unsigned_abs leg.place.up < 40000000
  pub east_speed : unsigned_abs leg.velocity.flat.east < 40000
  pub north_speed : unsigned_abs leg.velocity.flat.north < 40000
  pub up_speed : unsigned_abs leg.velocity.up < 40000
  pub some : 1 ≤ leg.secs
  pub short : leg.secs ≤ 180

-- each axis is below the bound in size
pub record IsSolidBelow (bound : ℕ) (x : Solid) : Type 0 where
  pub east : unsigned_abs x.flat.east < bound
  pub north : unsigned_abs x.flat.north < bound
  pub up : unsigned_abs x.up < bound

-- the sum, axis by axis
abbrev pub plus : Solid → Solid → Solid
plus x y = record {
  flat = record { east = x.flat.east +ℤ y.flat.east; north = x.flat.north +ℤ y.flat.north };
  up = x.up +ℤ y.up;
}

-- the difference, axis by axis
abbrev pub minus : Solid → Solid → Solid
minus x y = record {
  flat = record { east = x.flat.east -ℤ y.flat.east; north = x.flat.north -ℤ y.flat.north };
  up = x.up -ℤ y.up;
}

-- k times the vector
abbrev pub times : ℤ → Solid → Solid
times k x = record {
  flat = record { east = k *ℤ x.flat.east; north = k *ℤ x.flat.north };
  up = k *ℤ x.up;
}

-- the sum of f 0 to f (k - 1)
abbrev pub sum_below : (ℕ → Solid) → ℕ → Solid
sum_below f zero = record { flat = record { east = pos 0; north = pos 0 }; up = pos 0 }
sum_below f (suc k) = plus (sum_below f k) (f k)
