-- A leg of which the heights are left out: its way over ground alone, as if both flew at one height.
use Rattle.std.specs.Prelude.{pos}
use Rattle.daa_fixed.specs.declared.Leg.{Leg}

-- the way over ground of the leg alone
abbrev pub in_plane : Leg → Leg
in_plane leg = record {
  place = record { flat = leg.place.flat; up = pos 0 };
  velocity = record { flat = leg.velocity.flat; up = pos 0 };
  secs = leg.secs;
}
