-- The two sides of a present value, and how far a value is on a side.
use Rattle.std.specs.Prelude.{ℤ, pos, ◌-ℤ◌, ◌≤ℤ◌, ◌<ℤ◌}
use Rattle.std.specs.Int.{int_rem_euclid}
use Rattle.daa_config.specs.Limits.{full_turn}
use Rattle.daa_config.specs.declared.kind.Kind.{Kind}
use Rattle.daa_config.specs.declared.kind.Kind.TheVariants.{Track, GroundSpeed, VerticalSpeed, Altitude}
use Rattle.daa_state.specs.declared.word.Own.{Own}
use Rattle.daa_resolve.specs.declared.side.Side.{Side}
use Rattle.daa_resolve.specs.declared.side.Side.TheVariants.{Lower, Upper}

-- the ownship's present value of what a kind changes: its track, ground speed, vertical speed or altitude
abbrev pub present_of : Kind → Own → ℤ
present_of Track own = own.trk
present_of GroundSpeed own = own.gs
present_of VerticalSpeed own = own.vs
present_of Altitude own = own.alt

-- by how much a value is greater than the present one, or for Lower, less
abbrev pub way_of : Side → ℤ → ℤ → ℤ
way_of Upper now value = value -ℤ now
way_of Lower now value = now -ℤ value

-- how far a value is on a side; on track it is the angle of turning right, or for Lower, left, from 0 to 359 degrees
abbrev pub distance_of : Kind → Side → ℤ → ℤ → ℤ
distance_of Track side now value = int_rem_euclid (way_of side now value) (pos full_turn)
distance_of _ side now value = way_of side now value

-- a value is on a side of the present one: on track, right turns by 1 to 180 degrees and left by 0 to 179; on the other kinds, up has
-- the values greater than the present one, and down the others
abbrev pub IsOnSide : Kind → Side → ℤ → ℤ → Type 0
IsOnSide Track Upper now value = (pos 1 ≤ℤ distance_of Track Upper now value) × (distance_of Track Upper now value ≤ℤ pos 180)
IsOnSide Track Lower now value = (pos 0 ≤ℤ distance_of Track Lower now value) × (distance_of Track Lower now value ≤ℤ pos 179)
IsOnSide _ Upper now value = now <ℤ value
IsOnSide _ Lower now value = value ≤ℤ now
