-- What the tests of places say of their numbers.
use Rattle.std.proofs.Common.{◌≡◌, refl, ℕ, arith, Bool, true, false, ℤ, pos, ◌-ℤ◌, ◌≤ℤ◌}
use Rattle.std.specs.Prelude.{◌&&◌, int_le}
use Rattle.std.proofs.lemmas.Int.{ints}
use Rattle.daa_fixed.specs.Size.{IsWithin}
use Rattle.daa_heading.proofs.Quarters.{yes_le}
use Rattle.daa_plane.specs.Courses.{speed_square}
use Rattle.daa_plane.specs.Inside.Sizes.{IsGap, IsWide}
use Rattle.daa_plane.specs.Sight.{is_within, is_on_globe, has_speed, is_place, is_own_place, is_near}
use Rattle.daa_plane.specs.declared.gaps.Gap.{Gap}
use Rattle.daa_plane.specs.declared.place.Place.{Place}

-- the numbers of a place in their ranges
pub record IsSized (place : Place) : Type 0 where
  pub lat : IsWithin 800000000 place.lat
  pub lon : IsWithin 1800000000 place.lon
  pub vx : IsWithin 10000 place.vx
  pub vy : IsWithin 10000 place.vy

pub both : (a b : Bool) → (a && b) ≡ true → (a ≡ true) × (b ≡ true)
both true b e = (refl, e)
both false b e = absurd (cc e)

pub within_true : (most : ℕ) (z : ℤ) → is_within (pos most) z ≡ true → IsWithin most z
within_true most z e =
    let parts = both (int_le (pos 0 -ℤ pos most) z) (int_le z (pos most)) e in
    let low = yes_le (pos 0 -ℤ pos most) z parts.0 in
    let high = yes_le z (pos most) parts.1 in
    record { size = omega (arith, ints, low, high) }

pub place_parts : (p : Place) → is_place p ≡ true → IsSized p
place_parts p e =
    let parts = both (is_on_globe p) (has_speed p) e in
    let there = both (is_within (pos 800000000) p.lat) (is_within (pos 1800000000) p.lon) parts.0 in
    let speeds = both (is_within (pos 10000) p.vx) (is_within (pos 10000) p.vy) parts.1 in
    record {
      lat = within_true 800000000 p.lat there.0;
      lon = within_true 1800000000 p.lon there.1;
      vx = within_true 10000 p.vx speeds.0;
      vy = within_true 10000 p.vy speeds.1;
    }

pub own_parts : (p : Place) → is_own_place p ≡ true → (is_place p ≡ true) × (speed_square p ≤ℤ pos 100000000)
own_parts p e =
    let parts = both _ _ e in
    (parts.0, yes_le (speed_square p) (pos 100000000) parts.1)

pub near_parts : (gap : Gap) → IsWide gap → is_near gap ≡ true → IsGap gap
near_parts gap wide e =
    let parts = both _ _ e in
    record { lat = within_true 20000000 gap.lat parts.0; lon = within_true 120000000 gap.lon parts.1; sine = wide.sine; cosine = wide.cosine }
