-- How an aircraft's latitude and longitude differ from the ownship's.
use Rattle.std.specs.Prelude.{ℤ, pos, ◌+ℤ◌, ◌-ℤ◌}
use Rattle.std.specs.Int.{int_div_euclid, int_rem_euclid}
use Rattle.daa_plane.specs.Sines.{sine_of, cosine_of}
use Rattle.daa_plane.specs.declared.place.Place.{Place}
use Rattle.daa_plane.specs.declared.gaps.Gap.{Gap}

-- a difference of longitudes the short way round the globe: from -180 degrees on, and below 180
unfoldable pub short_way : ℤ → ℤ
short_way lon = int_rem_euclid (lon +ℤ pos 1800000000) (pos 3600000000) -ℤ pos 1800000000

-- the latitude in the middle between two
unfoldable pub middle_of : (lat other : ℤ) → ℤ
middle_of lat other = int_div_euclid (lat +ℤ other) (pos 2)

-- the differences, and sine and cosine of the latitude in the middle
unfoldable pub gap_of : (own aircraft : Place) → Gap
gap_of own aircraft = record {
  lat = aircraft.lat -ℤ own.lat;
  lon = short_way (aircraft.lon -ℤ own.lon);
  sine = sine_of (middle_of own.lat aircraft.lat);
  cosine = cosine_of (middle_of own.lat aircraft.lat);
}
