-- Legs and error bounds whose answers were worked out by hand.
use Rattle.std.specs.Prelude.{ℕ, pos, negsuc, neg_ℤ}
use Rattle.daa_fixed.specs.declared.Leg.{Leg}
use Rattle.daa_taumod.specs.Examples.{northward}
use Rattle.daa_margin.specs.declared.ErrorBounds.{ErrorBounds}

-- bounds on the errors of place, velocity, height and vertical speed
abbrev pub bounds_of : (place speed height climb : ℕ) → ErrorBounds
bounds_of place speed height climb = record { place = place; speed = speed; height = height; climb = climb }

-- half a second before a closest approach of 24760 units, at 360 knots
abbrev pub beside : Leg
beside = northward (negsuc 24759) (negsuc 1799) (pos 0) (pos 0)

-- 24760 units off, without relative motion
abbrev pub standing : Leg
standing = record {
  place = record { flat = record { east = negsuc 24759; north = pos 0 }; up = pos 0 };
  velocity = record { flat = record { east = pos 0; north = pos 0 }; up = pos 0 };
  secs = 2;
}

-- straight ahead, this many units off, and coming nearer at 360 knots
abbrev pub ahead_by : ℕ → Leg
ahead_by units = northward (pos 0) (neg_ℤ (pos units)) (pos 0) (pos 0)
