-- An aircraft in the plane round the ownship, and which places and velocities are taken.
use Rattle.std.specs.Prelude.{◌≡◌, ◌⊎◌, ℤ, pos, true, false, ◌+ℤ◌, ◌-ℤ◌, ◌*ℤ◌, Bool, ◌&&◌, int_le}
use Rattle.daa_plane.specs.Rounding.{nearest}
use Rattle.daa_plane.specs.Sines.{sine_of, cosine_of}
use Rattle.daa_plane.specs.Gaps.{gap_of}
use Rattle.daa_plane.specs.Ways.{way_of}
use Rattle.daa_plane.specs.Courses.{IsTrack, speed_square}
use Rattle.daa_plane.specs.declared.gaps.Gap.{Gap}
use Rattle.daa_plane.specs.declared.place.Place.{Place}
use Rattle.daa_plane.specs.declared.sight.Seen.{Seen}
use Rattle.daa_plane.specs.declared.ways.Way.{Way}

-- east and north, turned to the left by an angle and divided
unfoldable pub turned_east : (east north angle by : ℤ) → ℤ
turned_east east north angle by = nearest (east *ℤ cosine_of angle -ℤ north *ℤ sine_of angle) by

unfoldable pub turned_north : (east north angle by : ℤ) → ℤ
turned_north east north angle by = nearest (east *ℤ sine_of angle +ℤ north *ℤ cosine_of angle) by

-- the way is turned by half the convergence and by the plane's turn (0.0001 degree), and rounded to 0.001 NM
unfoldable pub way_angle : (way : Way) (turn : ℤ) → ℤ
way_angle way turn = nearest way.turn (pos 2) +ℤ pos 1000 *ℤ turn

-- a velocity is turned by all of the convergence, since it is told by the meridian where the aircraft is
unfoldable pub speed_angle : (way : Way) (turn : ℤ) → ℤ
speed_angle way turn = way.turn +ℤ pos 1000 *ℤ turn

unfoldable pub seen_along : (way : Way) (turn : ℤ) (aircraft : Place) → Seen
seen_along way turn aircraft = record {
  x = turned_east way.east way.north (way_angle way turn) (pos 1000000000);
  y = turned_north way.east way.north (way_angle way turn) (pos 1000000000);
  vx = turned_east aircraft.vx aircraft.vy (speed_angle way turn) (pos 10000000);
  vy = turned_north aircraft.vx aircraft.vy (speed_angle way turn) (pos 10000000);
}

abbrev pub is_within : (most number : ℤ) → Bool
is_within most number = int_le (pos 0 -ℤ most) number && int_le number most

-- whether a latitude is at most 80 degrees, and a longitude at most 180
abbrev pub is_on_globe : Place → Bool
is_on_globe p = is_within (pos 800000000) p.lat && is_within (pos 1800000000) p.lon

-- whether the speed on each axis is at most 1000 knots
abbrev pub has_speed : Place → Bool
has_speed p = is_within (pos 10000) p.vx && is_within (pos 10000) p.vy

-- whether the numbers of a place are in their ranges
abbrev pub is_place : Place → Bool
is_place p = is_on_globe p && has_speed p

-- whether an ownship is taken: its ground speed is at most 1000 knots
abbrev pub is_own_place : Place → Bool
is_own_place own = is_place own && int_le (speed_square own) (pos 100000000)

-- whether the latitudes differ by at most 2 degrees, and the longitudes by at most 12
abbrev pub is_near : Gap → Bool
is_near gap = is_within (pos 20000000) gap.lat && is_within (pos 120000000) gap.lon

-- whether an aircraft in the plane is at most 100 NM away
abbrev pub is_in_sight : Seen → Bool
is_in_sight seen = int_le (seen.x *ℤ seen.x +ℤ seen.y *ℤ seen.y) (pos 10000000000)

-- whether its speed on each axis of the plane is at most 1000 knots
abbrev pub is_slow : Seen → Bool
is_slow seen = is_within (pos 10000) seen.vx && is_within (pos 10000) seen.vy

-- an aircraft as it is in the plane of an ownship, whatever its distance
pub record IsSeen (own aircraft : Place) (seen : Seen) : Type 0 where
  pub track : ℤ
  pub turn : ℤ
  pub track_is : IsTrack own track turn
  pub seen_is : seen ≡ seen_along (way_of (gap_of own aircraft)) turn aircraft

-- why an aircraft is refused as being far: where both are in their ranges
pub record IsFar (own aircraft : Place) : Type 0 where
  pub taken : is_own_place own ≡ true
  pub sound : is_place aircraft ≡ true
  pub far : (is_near (gap_of own aircraft) ≡ false) ⊎ ((seen : Seen) × IsSeen own aircraft seen × (is_in_sight seen ≡ false))

-- why it is refused for its numbers: they are out of their ranges, or where it is near its speed in the plane is
pub record IsTooFast (own aircraft : Place) : Type 0 where
  pub taken : is_own_place own ≡ true
  pub fast : (is_place aircraft ≡ false) ⊎ ((seen : Seen) × IsSeen own aircraft seen × (is_slow seen ≡ false))
