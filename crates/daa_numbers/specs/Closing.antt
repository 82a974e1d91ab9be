-- Which aircraft a flight to a caller's value meets, and the level that it shows.
use Rattle.std.specs.Prelude.{◌≡◌, ◌⊎◌, ◌<◌, ◌≤◌, ◌&&◌, ℕ, ℤ, pos, int_le, Bool, length, Option, Some, None, Ok, if◌then◌else◌}
use Rattle.std.specs.Ordering.{int_eq}
use Rattle.daa_fixed.specs.Mask.{IsGreatestLevel}
use Rattle.daa_config.specs.Candidates.{candidate_to}
use Rattle.daa_config.specs.Settings.{Settings, value_bounds}
use Rattle.daa_config.specs.declared.candidate.Candidate.{Candidate}
use Rattle.daa_config.specs.declared.candidate.Candidate.TheVariants.{Hold}
use Rattle.daa_config.specs.declared.kind.Kind.{Kind}
use Rattle.daa_config.specs.declared.kind.Kind.TheVariants.{Track, GroundSpeed, VerticalSpeed, Altitude}
use Rattle.daa_state.specs.Picture.{aircraft_of}
use Rattle.daa_state.specs.declared.word.Picture.{Picture}
use Rattle.daa_closers.specs.Closers.{ArePlacesOf, MeetsSome, MeetsWithinLevels}
use Rattle.daa_numbers.specs.Asked.{IsTaken}
use Rattle.daa_numbers.specs.Numbers.{settings_by}
use Rattle.daa_numbers.specs.declared.refusal.Refusal.{Refusal}
use Rattle.daa_numbers.specs.declared.setting.DaaConfig.{DaaConfig}

-- the kind can have the value, whether or not a configuration lists it
abbrev pub has_value : Kind → ℤ → Bool
has_value kind value = int_le (value_bounds kind).low value && int_le value (value_bounds kind).high

-- the flight to a value that the kind can have
abbrev pub flight_to : Kind → ℤ → Option Candidate
flight_to kind value = if has_value kind value then Some (candidate_to kind value) else None

-- the flight of a kind's number and a value: the present flight has both 0
unfoldable pub flight_by : (number value : ℤ) → Option Candidate
flight_by number value =
    if int_eq number (pos 0) then (if int_eq value (pos 0) then Some Hold else None)
    else if int_eq number (pos 1) then flight_to Track value
    else if int_eq number (pos 2) then flight_to GroundSpeed value
    else if int_eq number (pos 3) then flight_to VerticalSpeed value
    else if int_eq number (pos 4) then flight_to Altitude value
    else None

-- from one level up to the other there is one, and all are levels
pub record AreLevels (settings : Settings) (least greatest : ℕ) : Type 0 where
  pub numbered : 1 ≤ least
  pub ordered : least ≤ greatest
  pub there : greatest ≤ length settings.levels

-- from one level up to the other there is none, or not all are levels
abbrev pub AreNoLevels : Settings → (least greatest : ℕ) → Type 0
AreNoLevels settings least greatest = (least ≡ 0) ⊎ (greatest < least) ⊎ (length settings.levels < greatest)

-- nothing else is refused, but no flight has these numbers
pub record HasNoFlight (refusal : Option Refusal) (number value : ℤ) : Type 0 where
  pub sound : refusal ≡ None
  pub none : flight_by number value ≡ None

module _ (config : DaaConfig) where
  -- nothing else is refused, but from one level up to the other there is none, or not all are levels
  pub record HasNoLevels (refusal : Option Refusal) (number value : ℤ) (least greatest : ℕ) : Type 0 where
    pub sound : refusal ≡ None
    pub candidate : Candidate
    pub flight : flight_by number value ≡ Some candidate
    pub settings : Settings
    pub accepted : settings_by config ≡ Ok settings
    pub none : AreNoLevels settings least greatest

  -- the places of exactly those aircraft that the flight meets at some level from `least` up to `greatest`
  pub record AreClosersUnder (picture : Picture) (number value : ℤ) (least greatest places : ℕ) : Type 0 where
    pub settings : Settings
    pub accepted : settings_by config ≡ Ok settings
    pub taken : IsTaken picture
    pub candidate : Candidate
    pub flight : flight_by number value ≡ Some candidate
    pub levels : AreLevels settings least greatest
    pub are : ArePlacesOf (MeetsWithinLevels settings picture.own candidate least greatest) (aircraft_of picture) places

  -- the greatest level at which the flight meets some aircraft, or 0
  pub record IsValueLevelUnder (picture : Picture) (number value : ℤ) (level : ℕ) : Type 0 where
    pub settings : Settings
    pub accepted : settings_by config ≡ Ok settings
    pub taken : IsTaken picture
    pub candidate : Candidate
    pub flight : flight_by number value ≡ Some candidate
    pub greatest : IsGreatestLevel (MeetsSome settings picture candidate) (length settings.levels) level
