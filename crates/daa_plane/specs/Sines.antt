-- Sines of angles in ten-millionths of a degree, times ten million: of whole degrees by a table, and between them by the first two terms of
-- Taylor's series.
use Rattle.std.specs.Prelude.{ℕ, ℤ, pos, ◌+ℤ◌, ◌-ℤ◌, ◌*ℤ◌, List, [], ◌∷◌, slice_index, if◌then◌else◌, int_le, int_lt, unsigned_abs}
use Rattle.daa_plane.specs.Rounding.{nearest, part}
use Rattle.daa_plane.specs.declared.sines.Direction.{Direction}

-- the sines of 0 to 90 degrees, ten in a row
unfoldable pub sines : List ℕ
sines =
    (0 ∷ 174524 ∷ 348995 ∷ 523360 ∷ 697565 ∷ 871557 ∷ 1045285 ∷ 1218693 ∷ 1391731 ∷ 1564345
    ∷ 1736482 ∷ 1908090 ∷ 2079117 ∷ 2249511 ∷ 2419219 ∷ 2588190 ∷ 2756374 ∷ 2923717 ∷ 3090170 ∷ 3255682
    ∷ 3420201 ∷ 3583679 ∷ 3746066 ∷ 3907311 ∷ 4067366 ∷ 4226183 ∷ 4383711 ∷ 4539905 ∷ 4694716 ∷ 4848096
    ∷ 5000000 ∷ 5150381 ∷ 5299193 ∷ 5446390 ∷ 5591929 ∷ 5735764 ∷ 5877853 ∷ 6018150 ∷ 6156615 ∷ 6293204
    ∷ 6427876 ∷ 6560590 ∷ 6691306 ∷ 6819984 ∷ 6946584 ∷ 7071068 ∷ 7193398 ∷ 7313537 ∷ 7431448 ∷ 7547096
    ∷ 7660444 ∷ 7771460 ∷ 7880108 ∷ 7986355 ∷ 8090170 ∷ 8191520 ∷ 8290376 ∷ 8386706 ∷ 8480481 ∷ 8571673
    ∷ 8660254 ∷ 8746197 ∷ 8829476 ∷ 8910065 ∷ 8987940 ∷ 9063078 ∷ 9135455 ∷ 9205049 ∷ 9271839 ∷ 9335804
    ∷ 9396926 ∷ 9455186 ∷ 9510565 ∷ 9563048 ∷ 9612617 ∷ 9659258 ∷ 9702957 ∷ 9743701 ∷ 9781476 ∷ 9816272
    ∷ 9848078 ∷ 9876883 ∷ 9902681 ∷ 9925462 ∷ 9945219 ∷ 9961947 ∷ 9975641 ∷ 9986295 ∷ 9993908 ∷ 9998477
    ∷ 10000000 ∷ [])

-- the sine of a whole degree from 0 to 90
unfoldable pub sine_at : ℤ → ℤ
sine_at degree = pos (slice_index sines (unsigned_abs degree))

-- the eastward and northward parts of the direction of a whole degree from 0 to 359, clockwise from north
unfoldable pub direction_of : ℤ → Direction
direction_of degree =
    if int_le degree (pos 90) then record { east = sine_at degree; north = sine_at (pos 90 -ℤ degree) }
    else if int_le degree (pos 180) then record { east = sine_at (pos 180 -ℤ degree); north = pos 0 -ℤ sine_at (degree -ℤ pos 90) }
    else if int_le degree (pos 270) then record { east = pos 0 -ℤ sine_at (degree -ℤ pos 180); north = pos 0 -ℤ sine_at (pos 270 -ℤ degree) }
    else record { east = pos 0 -ℤ sine_at (pos 360 -ℤ degree); north = sine_at (degree -ℤ pos 270) }

-- the whole degree nearest to an angle
unfoldable pub degree_of : ℤ → ℤ
degree_of angle = nearest angle (pos 10000000)

-- the arc from that degree on to the angle, in ten-millionths of a radian
unfoldable pub arc_of : ℤ → ℤ
arc_of angle = part (angle -ℤ pos 10000000 *ℤ degree_of angle) (pos 174533)

-- the sine of an angle of a whole degree and an arc: sin d + cos d * arc - sin d * arc^2 / 2
unfoldable pub sine_past : (degree arc : ℤ) → ℤ
sine_past degree arc = sine_at degree +ℤ part (sine_at (pos 90 -ℤ degree)) arc -ℤ part (sine_at degree) (nearest (part arc arc) (pos 2))

-- the sine of an angle from 0 to 90 degrees
unfoldable pub upper_sine : ℤ → ℤ
upper_sine angle = sine_past (degree_of angle) (arc_of angle)

-- the sine of an angle from -90 to 90 degrees
unfoldable pub sine_of : ℤ → ℤ
sine_of angle = if int_lt angle (pos 0) then pos 0 -ℤ upper_sine (pos 0 -ℤ angle) else upper_sine angle

-- its cosine is the sine of what it lacks to 90 degrees
unfoldable pub cosine_of : ℤ → ℤ
cosine_of angle = if int_lt angle (pos 0) then upper_sine (pos 900000000 +ℤ angle) else upper_sine (pos 900000000 -ℤ angle)
