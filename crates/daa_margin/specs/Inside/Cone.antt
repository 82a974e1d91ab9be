-- The distance that counts as near grows evenly, as the place moves: so that the place may be near is a question of a cone.
use Rattle.std.specs.Prelude.{ℤ, pos, ◌+ℤ◌, ◌-ℤ◌, ◌*ℤ◌, ◌≤ℤ◌, ◌<ℤ◌}
use Rattle.daa_fixed.specs.Flat.{dot_of, cross_of, square_of}
use Rattle.daa_fixed.specs.declared.Flat.{Flat}
use Rattle.daa_fixed.specs.declared.Leg.{Leg}
use Rattle.daa_taumod.specs.declared.Volume.{Volume}
use Rattle.daa_taumod.specs.Volume.{place_at}
use Rattle.daa_margin.specs.declared.ErrorBounds.{ErrorBounds}
use Rattle.daa_margin.specs.ErrorBounds.{place_error_at}

-- d times the distance that counts as near at n/d
abbrev pub radius_at : Volume → ErrorBounds → ℤ → ℤ → ℤ
radius_at volume bounds n d = pos volume.dthr *ℤ d +ℤ place_error_at bounds n d

module _ (leg : Leg) (volume : Volume) (bounds : ErrorBounds) where
  -- half of d times the rate at which the square of the distance, less that of the radius, grows at n/d
  abbrev pub slope_of : ℤ → ℤ → ℤ
  slope_of n d = dot_of (place_at leg n d) leg.velocity.flat -ℤ pos bounds.speed *ℤ radius_at volume bounds n d

  -- the way of the radius in the direction of the velocity, less that of its growth in the direction of the place
  abbrev pub drift : Flat
  drift = record {
    east = (pos volume.dthr +ℤ pos bounds.place) *ℤ leg.velocity.flat.east -ℤ pos bounds.speed *ℤ leg.place.flat.east;
    north = (pos volume.dthr +ℤ pos bounds.place) *ℤ leg.velocity.flat.north -ℤ pos bounds.speed *ℤ leg.place.flat.north;
  }

  -- where the square of the distance, less that of the radius, is least, it is at most 0
  abbrev pub CanComeNear : Type 0
  CanComeNear = square_of (cross_of leg.place.flat leg.velocity.flat) ≤ℤ dot_of drift drift

  -- from n/d to m/e the least value lies between the two, and is at most 0
  pub record DipsBetween (n d m e : ℤ) : Type 0 where
    pub falls : slope_of n d <ℤ pos 0
    pub rises : pos 0 <ℤ slope_of m e
    pub near : CanComeNear
