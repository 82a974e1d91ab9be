-- The box test: what stays beyond a distance on one side of one axis.
use Rattle.std.specs.Prelude.{ℕ, ℤ, pos, neg_ℤ, ◌+◌, ◌+ℤ◌, ◌*ℤ◌, ◌<ℤ◌, ◌⊎◌}
use Rattle.daa_fixed.specs.declared.Leg.{Leg}
use Rattle.daa_taumod.specs.declared.Volume.{Volume}

-- begin and end are both more than radius, or both less than -radius
abbrev pub IsBeyond : (begin end : ℤ) → (radius : ℕ) → Type 0
IsBeyond begin end radius = ((pos radius <ℤ begin) × (pos radius <ℤ end)) ⊎ ((begin <ℤ neg_ℤ (pos radius)) × (end <ℤ neg_ℤ (pos radius)))

-- what begins at `begin` and moves at `speed` stays more than radius off on one side for secs seconds
abbrev pub StaysBeyond : (begin speed : ℤ) (secs radius : ℕ) → Type 0
StaysBeyond begin speed secs radius = IsBeyond begin (begin +ℤ pos secs *ℤ speed) radius

-- the leg, flown on for tthr seconds, stays more than dthr off to the east, the west, the north or the south
abbrev pub IsFar : Leg → Volume → Type 0
IsFar leg volume =
    StaysBeyond leg.place.flat.east leg.velocity.flat.east (leg.secs + volume.tthr) volume.dthr
    ⊎ StaysBeyond leg.place.flat.north leg.velocity.flat.north (leg.secs + volume.tthr) volume.dthr
