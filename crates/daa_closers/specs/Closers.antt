-- Which aircraft of a moment a flight meets, as a set of places, and at which levels it meets one.
use Rattle.std.specs.Prelude.{◌≡◌, ◌≤◌, ◌↔◌, ℕ, List, length, slice_get, Some}
use Rattle.std.specs.Int.{bit_at}
use Rattle.daa_config.specs.declared.candidate.Candidate.{Candidate}
use Rattle.daa_config.specs.Settings.{Settings}
use Rattle.daa_state.specs.declared.word.Own.{Own}
use Rattle.daa_state.specs.declared.word.Picture.{Picture}
use Rattle.daa_state.specs.declared.word.Traffic.{Traffic}
use Rattle.daa_state.specs.Picture.{aircraft_of}
use Rattle.daa_legs.specs.Meeting.{Meets}

-- the flight meets the aircraft at some level from `least` up to `greatest`
pub record MeetsWithinLevels (settings : Settings) (own : Own) (candidate : Candidate) (least greatest : ℕ) (aircraft : Traffic) : Type 0 where
  pub l : ℕ
  pub from : least ≤ l
  pub upto : l ≤ greatest
  pub meets : Meets settings own candidate aircraft l

-- the flight meets some aircraft of the moment at level l
pub record MeetsSome (settings : Settings) (picture : Picture) (candidate : Candidate) (l : ℕ) : Type 0 where
  pub place : ℕ
  pub aircraft : Traffic
  pub there : slice_get (aircraft_of picture) place ≡ Some aircraft
  pub meets : Meets settings picture.own candidate aircraft l

-- the place is in the set: its bit is 1
abbrev pub HasPlace : (places place : ℕ) → Type 0
HasPlace places place = bit_at places place ≡ 1

-- the set has the places of exactly those aircraft of which it holds
pub record ArePlacesOf (Holds : Traffic → Type 0) (aircraft : List Traffic) (places : ℕ) : Type 0 where
  pub each : (place : ℕ) (one : Traffic) → slice_get aircraft place ≡ Some one → HasPlace places place ↔ Holds one
  pub none_past : (place : ℕ) → length aircraft ≤ place → HasPlace places place → ⊥
