-- States flown straight on from the time of their report to another time, in milliseconds.
use Rattle.std.specs.Prelude.{◌≡◌, ◌⊎◌, ◌<◌, ◌≤◌, ◌+◌, ◌*◌, ℕ, ℤ, pos, neg_ℤ, ◌+ℤ◌, ◌*ℤ◌, ◌<ℤ◌, Option, None}
use Rattle.std.specs.Int.{int_div_euclid}
use Rattle.daa_fixed.specs.Size.{IsFrom}
use Rattle.daa_heading.specs.Heading.{velocity_of}
use Rattle.daa_state.specs.declared.word.Own.{Own}
use Rattle.daa_numbers.specs.declared.refusal.Refusal.{Refusal}
use Rattle.daa_numbers.specs.declared.states.DaaTraffic.{DaaTraffic}

-- the whole number nearest to a / b; of two as near, the greater one
abbrev pub nearest : (a b : ℤ) → ℤ
nearest a b = int_div_euclid (pos 2 *ℤ a +ℤ b) (pos 2 *ℤ b)

-- a place on an axis, in 0.001 NM, after so many milliseconds at a speed in 0.1 kt: a speed of 1 takes 36000 ms for 0.001 NM
abbrev pub place_after : (place speed ms : ℤ) → ℤ
place_after place speed ms = place +ℤ nearest (speed *ℤ ms) (pos 36000)

-- an altitude in ft after so many milliseconds at a vertical speed in ft/min
abbrev pub altitude_after : (altitude speed ms : ℤ) → ℤ
altitude_after altitude speed ms = altitude +ℤ nearest (speed *ℤ ms) (pos 60000)

-- an aircraft flown straight on for so many milliseconds, with an age of so many seconds more
abbrev pub flown_traffic : DaaTraffic → (ms : ℤ) (age : ℕ) → DaaTraffic
flown_traffic t ms age = record t {
  x = place_after t.x t.vx ms;
  y = place_after t.y t.vy ms;
  alt = altitude_after t.alt t.vs ms;
  age = age;
}

-- an ownship flown straight on for so many milliseconds
abbrev pub flown_own : Own → (ms : ℤ) → Own
flown_own own ms = record own {
  x = place_after own.x (velocity_of own.gs own.trk).east ms;
  y = place_after own.y (velocity_of own.gs own.trk).north ms;
  alt = altitude_after own.alt own.vs ms;
}

-- the report is so many milliseconds old, at most `most` and less than 61 seconds, or it is of a time that is a second ahead at most
pub record IsAge (at now most : ℕ) (age : ℤ) : Type 0 where
  pub is : pos now ≡ pos at +ℤ age
  pub range : IsFrom (neg_ℤ (pos 1000)) (pos 60999) age
  pub young : now ≤ at + most

-- the report is older than `most` milliseconds, or at least 61 seconds old
abbrev pub IsTooOld : (at now most : ℕ) → Type 0
IsTooOld at now most = (at + most < now) ⊎ (at + 60999 < now)

-- the report is of a time more than a second ahead
abbrev pub IsAhead : (at now : ℕ) → Type 0
IsAhead at now = now + 1000 < at

-- an aircraft of which the engine flies the whole seconds of its age: what is left of its age, less than a second, is flown here. A report of a
-- time ahead is flown back, and its age is 0
pub record IsFlown (at now most : ℕ) (reported flown : DaaTraffic) : Type 0 where
  pub age : ℤ
  pub age_is : IsAge at now most age
  pub rest : ℤ
  pub parts : age ≡ pos (1000 * flown.age) +ℤ rest
  pub less : rest <ℤ pos 1000
  pub back : rest <ℤ pos 0 → flown.age ≡ 0
  pub is : flown ≡ flown_traffic reported rest flown.age

-- an ownship, which has no age for the engine: all of its age is flown here
pub record IsOwnFlown (at now most : ℕ) (reported flown : Own) : Type 0 where
  pub age : ℤ
  pub age_is : IsAge at now most age
  pub is : flown ≡ flown_own reported age

-- nothing else is refused, but this is wrong with the time of the report
pub record IsSoundBut (refusal : Option Refusal) (Wrong : Type 0) : Type 0 where
  pub sound : refusal ≡ None
  pub wrong : Wrong
