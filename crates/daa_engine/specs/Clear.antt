-- What is clear in truth: not only as the reports have it, but for every truth that is within what they may err by.
use Rattle.std.specs.Prelude.{ℕ, ℤ, pos, ◌≡◌, ◌≤◌, ◌<◌, ◌≤ℤ◌, Option, Some, None, slice_get}
use Rattle.daa_taumod.specs.declared.Volume.{Volume}
use Rattle.daa_config.specs.Candidates.{values_of, candidate_to}
use Rattle.daa_config.specs.Settings.{Settings, IsLevelAt, rates_of}
use Rattle.daa_config.specs.declared.candidate.Candidate.{Candidate}
use Rattle.daa_config.specs.declared.candidate.Candidate.TheVariants.{Hold}
use Rattle.daa_config.specs.declared.candidate.Resolution.{Resolution}
use Rattle.daa_config.specs.declared.candidate.Resolution.TheVariants.{Keep, To, Nothing}
use Rattle.daa_config.specs.declared.kind.Kind.{Kind}
use Rattle.daa_config.specs.declared.level.Level.{Level}
use Rattle.daa_state.specs.Picture.{aircraft_of}
use Rattle.daa_state.specs.declared.word.Own.{Own}
use Rattle.daa_state.specs.declared.word.Picture.{Picture}
use Rattle.daa_state.specs.declared.word.Traffic.{Traffic}
use Rattle.daa_legs.specs.OwnLeg.{own_leg}
use Rattle.daa_legs.specs.Relative.{relative_for}
use Rattle.daa_legs.specs.declared.own_leg.OwnLeg.{OwnLeg}
use Rattle.daa_meet.specs.InTruth.{ViolatesInTruth, IsClearOn}
use Rattle.daa_last.specs.Delayed.{leg_delayed}

-- ---- flights, each given by the ownship's legs, second by second

-- a candidate's flight
abbrev pub flight_of : Settings → Own → Candidate → ℕ → OwnLeg
flight_of settings own candidate = own_leg own (rates_of settings) candidate

-- the present flight for m seconds, and then the candidate's
abbrev pub flight_after : Settings → Own → (m : ℕ) → Candidate → ℕ → OwnLeg
flight_after settings own m candidate = leg_delayed own (rates_of settings) m candidate

-- the candidate that an answer of a kind names: Hold, the present flight; the one to its value; or none
abbrev pub named_by : Kind → Resolution → Option Candidate
named_by kind Keep = Some Hold
named_by kind (To value) = Some (candidate_to kind value)
named_by kind Nothing = None

-- ---- what is clear

-- on the flight's legs from `first` on, before `upto`, the aircraft violates the volume in no truth
abbrev pub IsClearBetween : (flight : ℕ → OwnLeg) → Traffic → Volume → (first upto : ℕ) → Type 0
IsClearBetween flight aircraft volume first upto = (k : ℕ) → first ≤ k → k < upto → IsClearOn flight aircraft volume k

module _ (settings : Settings) (picture : Picture) (flight : ℕ → OwnLeg) where
  -- at level l the flight is clear from second `first` on: of every aircraft of the picture, before the level's lookahead
  abbrev pub IsClearAt : (first l : ℕ) → Type 0
  IsClearAt first l = (level : Level) (place : ℕ) (aircraft : Traffic) → IsLevelAt settings l level → slice_get (aircraft_of picture) place ≡ Some aircraft
      → IsClearBetween flight aircraft level.volume first level.lookahead

  -- the flight is open from second `first` on: it is clear from then on at the corrective level and at each level above it
  abbrev pub IsOpenInTruth : (first : ℕ) → Type 0
  IsOpenInTruth first = (l : ℕ) → settings.numbers.resolve ≤ℤ pos l → IsClearAt first l

  -- the flight stays out of the cylinder that recoveries stay out of, round every aircraft, as far ahead as the corrective level or a
  -- level above it looks
  abbrev pub IsApartInTruth : Type 0
  IsApartInTruth = (cylinder : Volume) (l : ℕ) (level : Level) (place : ℕ) (aircraft : Traffic) → settings.recovery ≡ Some cylinder
      → settings.numbers.resolve ≤ℤ pos l → IsLevelAt settings l level → slice_get (aircraft_of picture) place ≡ Some aircraft
      → IsClearBetween flight aircraft cylinder 0 level.lookahead

module _ (settings : Settings) (own : Own) (aircraft : Traffic) where
  -- now the aircraft violates no level above this one, in any truth
  abbrev pub IsClearNowAbove : (level : ℕ) → Type 0
  IsClearNowAbove now = (l : ℕ) (level : Level) → now < l → IsLevelAt settings l level
      → ¬ ViolatesInTruth aircraft 0 (relative_for 1 (flight_of settings own Hold 0) aircraft 0) level.volume (pos 0) (pos 1)

  -- on the present flight the aircraft violates no level above this one within that level's alert time, in any truth
  abbrev pub IsClearAheadAbove : (level : ℕ) → Type 0
  IsClearAheadAbove alert = (l : ℕ) (level : Level) → alert < l → IsLevelAt settings l level
      → IsClearBetween (flight_of settings own Hold) aircraft level.volume 0 level.alert

  -- on the present flight the aircraft does not violate level l before second k, in any truth
  abbrev pub IsClearBefore : (l k : ℕ) → Type 0
  IsClearBefore l k = (level : Level) → IsLevelAt settings l level → IsClearBetween (flight_of settings own Hold) aircraft level.volume 0 k

-- after m seconds of the present flight some candidate of the kind can be flown: both together are open
pub record HasOpenAfter (settings : Settings) (picture : Picture) (kind : Kind) (m : ℕ) : Type 0 where
  pub index : ℕ
  pub value : ℤ
  pub there : slice_get (values_of kind settings) index ≡ Some value
  pub is_open : IsOpenInTruth settings picture (flight_after settings picture.own m (candidate_to kind value)) 0

-- the candidate recovers at second m: it is open from then on, and apart
pub record RecoversInTruth (settings : Settings) (picture : Picture) (candidate : Candidate) (m : ℕ) : Type 0 where
  pub is_open : IsOpenInTruth settings picture (flight_of settings picture.own candidate) m
  pub apart : IsApartInTruth settings picture (flight_of settings picture.own candidate)
