-- The horizontal motion of a leg, by numbers that are the same at each of its times.
use Rattle.std.specs.Prelude.{◌≡◌, ℕ, ◌^◌, ℤ, pos, neg_ℤ, ◌+ℤ◌, ◌-ℤ◌, ◌*ℤ◌, ◌≤ℤ◌, ◌⊎◌}
use Rattle.daa_fixed.specs.Flat.{dot_of, cross_of, square_of}
use Rattle.daa_fixed.specs.declared.Leg.{Leg}
use Rattle.daa_taumod.specs.declared.Volume.{Volume}
use Rattle.daa_detect.specs.declared.motion.Motion.{Motion}

-- v.v, s.v and dthr^2 (v.v) - (s x v)^2
pub record IsMotion (leg : Leg) (volume : Volume) (m : Motion) : Type 0 where
  pub speed_squared : m.speed_squared ≡ dot_of leg.velocity.flat leg.velocity.flat
  pub rate : m.rate ≡ dot_of leg.place.flat leg.velocity.flat
  pub margin : m.margin ≡ square_of (pos volume.dthr) *ℤ dot_of leg.velocity.flat leg.velocity.flat -ℤ square_of (cross_of leg.place.flat leg.velocity.flat)

-- the closest approach lies ahead, and its time is a point in range
pub record IsAhead (m : Motion) : Type 0 where
  pub moves : pos 1 ≤ℤ m.speed_squared
  pub later : m.rate ≤ℤ pos 0
  pub small : neg_ℤ m.rate ≤ℤ pos (2 ^ 41)

-- s.v at n/d, times d
abbrev pub rate_of : Motion → ℤ → ℤ → ℤ
rate_of m n d = d *ℤ m.rate +ℤ n *ℤ m.speed_squared

-- s.s + secs (s.v) is at most dthr^2 at n/d, times v.v and the square of d
abbrev pub IsModifiedTauWithin : Motion → ℕ → ℤ → ℤ → Type 0
IsModifiedTauWithin m secs n d = (rate_of m n d *ℤ (rate_of m n d +ℤ pos secs *ℤ d *ℤ m.speed_squared)) ≤ℤ (d *ℤ d *ℤ m.margin)

-- s.s + secs (s.v) is at most 0 at n/d, times v.v and the square of d
abbrev pub IsTauWithin : Leg → Motion → ℕ → ℤ → ℤ → Type 0
IsTauWithin leg m secs n d =
    (rate_of m n d *ℤ (rate_of m n d +ℤ pos secs *ℤ d *ℤ m.speed_squared)) ≤ℤ neg_ℤ (square_of (d *ℤ cross_of leg.place.flat leg.velocity.flat))

-- s.v secs seconds after n/d, times d
abbrev pub later_rate_of : Motion → ℕ → ℤ → ℤ → ℤ
later_rate_of m secs n d = rate_of m n d +ℤ pos secs *ℤ d *ℤ m.speed_squared

-- secs seconds after n/d the distance is at most dthr, times v.v and the square of d
abbrev pub IsNearLater : Motion → ℕ → ℤ → ℤ → Type 0
IsNearLater m secs n d = (later_rate_of m secs n d *ℤ later_rate_of m secs n d) ≤ℤ (d *ℤ d *ℤ m.margin)

-- secs seconds after n/d the distance falls no more, or is at most dthr
abbrev pub IsEntryWithin : Motion → ℕ → ℤ → ℤ → Type 0
IsEntryWithin m secs n d = (pos 0 ≤ℤ later_rate_of m secs n d) ⊎ IsNearLater m secs n d

-- twice s.v secs/2 seconds after n/d, times d: below 0 before the middle of the times with s.s + secs (s.v) at most 0
abbrev pub middle_rate_of : Motion → ℕ → ℤ → ℤ → ℤ
middle_rate_of m secs n d = pos 2 *ℤ rate_of m n d +ℤ pos secs *ℤ d *ℤ m.speed_squared

-- in that middle s.s + secs (s.v) is at most 0: the line comes within half of the way of secs seconds
abbrev pub IsTauWithinInMiddle : Leg → Motion → ℕ → Type 0
IsTauWithinInMiddle leg m secs = square_of (pos 2 *ℤ cross_of leg.place.flat leg.velocity.flat) ≤ℤ square_of (pos secs *ℤ m.speed_squared)

-- that middle lies ahead, and is a point in range
pub record IsMiddleAhead (m : Motion) (secs : ℕ) : Type 0 where
  pub moves : pos 1 ≤ℤ m.speed_squared
  pub later : (pos 2 *ℤ m.rate +ℤ pos secs *ℤ m.speed_squared) ≤ℤ pos 0
  pub small : neg_ℤ (pos 2 *ℤ m.rate +ℤ pos secs *ℤ m.speed_squared) ≤ℤ pos (2 ^ 41)
