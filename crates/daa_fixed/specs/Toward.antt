-- A value that moves toward a target by at most a rate.
use Rattle.std.specs.Prelude.{ℤ, pos, ◌+ℤ◌, ◌-ℤ◌, ◌≤ℤ◌, ◌≤◌, unsigned_abs}
use Rattle.std.specs.Int.{int_max, int_min}

-- the number at most `rate` away from `now` that is nearest to `target`
abbrev pub toward_of : (now target rate : ℤ) → ℤ
toward_of now target rate = int_max (now -ℤ rate) (int_min (now +ℤ rate) target)

-- x is at most `rate` away from `now`, and no such number is nearer to `target`
pub record IsNearestWithin (now target rate x : ℤ) : Type 0 where
  pub within : pos (unsigned_abs (x -ℤ now)) ≤ℤ rate
  pub nearest : (y : ℤ) → pos (unsigned_abs (y -ℤ now)) ≤ℤ rate → unsigned_abs (x -ℤ target) ≤ unsigned_abs (y -ℤ target)
