-- Legs and volumes whose violations were worked out by hand. The aircraft moves north at 360
-- knots, 3600 units a second; 660 thousandths of a nautical mile are 23760 units.
use Rattle.std.specs.Prelude.{ℕ, ℤ, pos, negsuc}
use Rattle.daa_fixed.specs.declared.Leg.{Leg}
use Rattle.daa_taumod.specs.declared.Model.{Model}
use Rattle.daa_taumod.specs.declared.Volume.{Volume}

-- north at 360 knots for two seconds, from a place and with a rate of climb
abbrev pub northward : (east north up rise : ℤ) → Leg
northward east north up rise = record {
  place = record { flat = record { east = east; north = north }; up = up };
  velocity = record { flat = record { east = pos 0; north = pos 3600 }; up = rise };
  secs = 2;
}

-- a volume of these thresholds, by one of the models
abbrev pub volume_of : (dthr zthr tthr tcoa : ℕ) → Model → Volume
volume_of dthr zthr tthr tcoa model = record { dthr = dthr; zthr = zthr; tthr = tthr; tcoa = tcoa; model = model }

-- half a second before a closest approach of 23760 units
abbrev pub touching : Leg
touching = northward (negsuc 23759) (negsuc 1799) (pos 0) (pos 0)

-- ten seconds before a closest approach of 23760 units
abbrev pub ahead : Leg
ahead = northward (negsuc 23759) (negsuc 35999) (pos 0) (pos 0)

-- ten seconds before a closest approach of 11880 units
abbrev pub inside : Leg
inside = northward (negsuc 11879) (negsuc 35999) (pos 0) (pos 0)

-- 30000 units below, rising by 1000 a second
abbrev pub below : Leg
below = northward (pos 0) (pos 0) (negsuc 29999) (pos 1000)
