-- How large the numbers are from which a way is found.
use Rattle.daa_fixed.specs.Size.{IsWithin}
use Rattle.std.specs.Prelude.{ℤ}
use Rattle.daa_plane.specs.declared.gaps.Gap.{Gap}
use Rattle.daa_plane.specs.declared.sight.Seen.{Seen}
use Rattle.daa_plane.specs.declared.sines.Direction.{Direction}
use Rattle.daa_plane.specs.declared.ways.Squares.{Squares}
use Rattle.daa_plane.specs.declared.ways.Way.{Way}

-- the square of a sine
abbrev pub IsRatio : ℤ → Type 0
IsRatio s = IsWithin 10500000 s

-- differences of any size
pub record IsWide (gap : Gap) : Type 0 where
  pub lat : IsWithin 1600000000 gap.lat
  pub lon : IsWithin 1800000000 gap.lon
  pub sine : IsWithin 10200000 gap.sine
  pub cosine : IsWithin 10200000 gap.cosine

-- differences of at most 2 degrees and 12 degrees
pub record IsGap (gap : Gap) : Type 0 where
  pub lat : IsWithin 20000000 gap.lat
  pub lon : IsWithin 120000000 gap.lon
  pub sine : IsWithin 10200000 gap.sine
  pub cosine : IsWithin 10200000 gap.cosine

pub record AreSquares (of : Squares) : Type 0 where
  pub sine : IsRatio of.sine
  pub lat : IsWithin 110000 of.lat
  pub lon : IsWithin 110000 of.lon
  pub both : IsWithin 120000 of.both

pub record IsWay (way : Way) : Type 0 where
  pub east : IsWithin 100000000 way.east
  pub north : IsWithin 100000000 way.north
  pub turn : IsWithin 140000000 way.turn

-- the parts of a direction
pub record IsDirection (d : Direction) : Type 0 where
  pub east : IsWithin 10000000 d.east
  pub north : IsWithin 10000000 d.north

-- half a degree and a little, in 0.0001 degree
abbrev pub IsTurn : ℤ → Type 0
IsTurn turn = IsWithin 5100 turn

-- an aircraft's numbers in the plane, whatever its distance
pub record IsSmall (seen : Seen) : Type 0 where
  pub x : IsWithin 3000000 seen.x
  pub y : IsWithin 3000000 seen.y
