-- How far what is reported of a relative leg may be from the truth. The time is n/d seconds after the leg's beginning; errors at
-- it are multiplied out by d, so that all numbers are whole.
use Rattle.std.specs.Prelude.{ℤ, pos, ◌+ℤ◌, ◌-ℤ◌, ◌*ℤ◌, ◌≤ℤ◌, ◌≤◌, unsigned_abs}
use Rattle.daa_fixed.specs.Flat.{square_of}
use Rattle.daa_fixed.specs.declared.Leg.{Leg}
use Rattle.daa_margin.specs.declared.ErrorBounds.{ErrorBounds}
use Rattle.daa_taumod.specs.Volume.{place_at, height_at}

-- bounds as large as the fields' comments say
pub record AreErrorBoundsInRange (bounds : ErrorBounds) : Type 0 where
  pub place : bounds.place ≤ 8000000
  pub speed : bounds.speed ≤ 30000
  pub height : bounds.height ≤ 6000000
  pub climb : bounds.climb ≤ 20000

-- no bound of the first is greater than that of the second
pub record AreNoWider (narrow wide : ErrorBounds) : Type 0 where
  pub place : narrow.place ≤ wide.place
  pub speed : narrow.speed ≤ wide.speed
  pub height : narrow.height ≤ wide.height
  pub climb : narrow.climb ≤ wide.climb

-- d times the greatest error of the place over ground at n/d: it grows by the greatest error of the velocity each second
abbrev pub place_error_at : ErrorBounds → ℤ → ℤ → ℤ
place_error_at bounds n d = d *ℤ pos bounds.place +ℤ n *ℤ pos bounds.speed

-- d times the greatest error of the height at n/d
abbrev pub height_error_at : ErrorBounds → ℤ → ℤ → ℤ
height_error_at bounds n d = d *ℤ pos bounds.height +ℤ n *ℤ pos bounds.climb

-- at n/d the truth is within the bounds of what is reported: place and velocity over ground each within a disc, height and vertical
-- speed each within an interval. Before and after that time nothing is asked of the truth, which may turn and accelerate.
pub record IsWithinErrors (bounds : ErrorBounds) (truth reported : Leg) (n d : ℤ) : Type 0 where
  pub place : (square_of ((place_at reported n d).east -ℤ (place_at truth n d).east)
      +ℤ square_of ((place_at reported n d).north -ℤ (place_at truth n d).north)) ≤ℤ square_of (place_error_at bounds n d)
  pub velocity : (square_of (reported.velocity.flat.east -ℤ truth.velocity.flat.east)
      +ℤ square_of (reported.velocity.flat.north -ℤ truth.velocity.flat.north)) ≤ℤ square_of (pos bounds.speed)
  pub height : pos (unsigned_abs (height_at reported n d -ℤ height_at truth n d)) ≤ℤ height_error_at bounds n d
  pub climb : pos (unsigned_abs (reported.velocity.up -ℤ truth.velocity.up)) ≤ℤ pos bounds.climb
