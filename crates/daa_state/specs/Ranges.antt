-- The ranges of the numbers of state lines. Both ends belong to a range.
use Rattle.std.specs.Prelude.{ℤ, pos, neg_ℤ}

-- the numbers from low to high
pub record Bounds : Type 0 where
  pub low : ℤ
  pub high : ℤ

-- a place east or north, in thousandths of a nautical mile
abbrev pub positions : Bounds
positions = record { low = neg_ℤ (pos 200000); high = pos 200000 }

-- feet
abbrev pub altitudes : Bounds
altitudes = record { low = neg_ℤ (pos 2000); high = pos 60000 }

-- degrees clockwise from north
abbrev pub tracks : Bounds
tracks = record { low = pos 0; high = pos 359 }

-- tenths of a knot
abbrev pub ground_speeds : Bounds
ground_speeds = record { low = pos 0; high = pos 10000 }

-- an aircraft's speed east or north, in tenths of a knot
abbrev pub speeds : Bounds
speeds = record { low = neg_ℤ (pos 10000); high = pos 10000 }

-- feet per minute
abbrev pub vertical_speeds : Bounds
vertical_speeds = record { low = neg_ℤ (pos 10000); high = pos 10000 }

-- how many seconds old a report is
abbrev pub ages : Bounds
ages = record { low = pos 0; high = pos 60 }

-- how far a report may be from the truth, each number in its unit
abbrev pub error_bounds : Bounds
error_bounds = record { low = pos 0; high = pos 10000 }

-- the formats of the lines
abbrev pub formats : Bounds
formats = record { low = pos 1; high = pos 3 }

-- the times of moments, in seconds
abbrev pub times : Bounds
times = record { low = pos 0; high = pos 4294967295 }
