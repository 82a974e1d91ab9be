-- A leg of which one part is left out: its heights alone, as if both flew at one place, or its way over ground alone, as if both flew
-- at one height.
use Rattle.std.specs.Prelude.{pos}
use Rattle.daa_fixed.specs.declared.Leg.{Leg}

-- the heights of the leg alone
abbrev pub in_height : Leg → Leg
in_height leg = record {
  place = record { flat = record { east = pos 0; north = pos 0 }; up = leg.place.up };
  velocity = record { flat = record { east = pos 0; north = pos 0 }; up = leg.velocity.up };
  secs = leg.secs;
}
