-- The way from the ownship to an aircraft on the ellipsoid WGS 84, by Gauss's formulas for the latitude in the middle. The ways are in
-- 0.00001 NM as seen from a point in the middle; the turn is by how much the meridians converge, in ten-millionths of a degree.
use Rattle.std.specs.Prelude.{ℤ, pos, ◌+ℤ◌, ◌-ℤ◌, ◌*ℤ◌}
use Rattle.daa_plane.specs.Rounding.{nearest, part}
use Rattle.daa_plane.specs.declared.gaps.Gap.{Gap}
use Rattle.daa_plane.specs.declared.ways.Squares.{Squares}
use Rattle.daa_plane.specs.declared.ways.Way.{Way}

-- the square of half an angle in radians, times ten million: 87266 ten-millionths of a radian are half a degree
unfoldable pub half_square : ℤ → ℤ
half_square angle = part (part angle (pos 87266)) (part angle (pos 87266))

-- the square of the middle latitude's sine, of half the differences, and the product of the first and the last
unfoldable pub squares_of : Gap → Squares
squares_of gap = record {
  sine = part gap.sine gap.sine;
  lat = half_square gap.lat;
  lon = half_square gap.lon;
  both = part (part gap.sine gap.sine) (half_square gap.lon);
}

-- how long a degree of longitude is on the equator's scale, in 0.00001 NM for a ten-millionth of a degree, times ten million: the radius of
-- curvature in the prime vertical, a / sqrt(1 - e^2 s), as a polynomial in the square s of the latitude's sine
unfoldable pub prime_vertical : ℤ → ℤ
prime_vertical s = pos 6010772 +ℤ part (pos 20119 +ℤ part (pos 102) s) s

-- the same of a degree of latitude: the radius of curvature in the meridian, a (1 - e^2) / sqrt(1 - e^2 s)^3
unfoldable pub meridian : ℤ → ℤ
meridian s = pos 5970533 +ℤ part (pos 59951 +ℤ part (pos 508) s) s

-- a number, and parts of itself more
unfoldable pub stretched : (number by : ℤ) → ℤ
stretched number by = number +ℤ part number by

-- eastward: the difference of longitudes times the cosine, times 1 + (q - s p) / 6, where p and q are the squares of half the differences
-- of longitudes and latitudes
unfoldable pub way_east : Gap → Squares → ℤ
way_east gap of = stretched (part (part gap.lon gap.cosine) (prime_vertical of.sine)) (nearest (of.lat -ℤ of.both) (pos 6))

-- northward: the difference of latitudes, times 1 - (2 + s) p / 6
unfoldable pub way_north : Gap → Squares → ℤ
way_north gap of = stretched (part gap.lat (meridian of.sine)) (nearest (pos 0 -ℤ pos 2 *ℤ of.lon -ℤ of.both) (pos 6))

-- how much the meridians converge: the difference of longitudes times the sine, times 1 + (3 q + 2 (1 - s) p) / 6
unfoldable pub convergence : Gap → Squares → ℤ
convergence gap of = stretched (part gap.lon gap.sine) (nearest (pos 3 *ℤ of.lat +ℤ pos 2 *ℤ (of.lon -ℤ of.both)) (pos 6))

unfoldable pub way_of : Gap → Way
way_of gap = record {
  east = way_east gap (squares_of gap);
  north = way_north gap (squares_of gap);
  turn = convergence gap (squares_of gap);
}
