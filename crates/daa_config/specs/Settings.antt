-- A configuration as contracts see it, and what holds of every one that is accepted.
use Rattle.std.specs.Prelude.{◌≡◌, ℕ, ℤ, pos, ◌-◌, ◌%◌, ◌≤◌, ◌≤ℤ◌, ◌-ℤ◌, neg_ℤ, nat_abs, Bool, List, length, slice_get, Option, Some}
use Rattle.daa_fixed.specs.Size.{IsFrom}
use Rattle.daa_taumod.specs.declared.Model.TheVariants.{Taumod}
use Rattle.daa_taumod.specs.declared.Volume.{Volume}
use Rattle.daa_taumod.specs.Volume.{IsVolumeInRange}
use Rattle.daa_config.specs.declared.candidate.Candidate.{Candidate}
use Rattle.daa_config.specs.declared.candidate.Candidate.TheVariants.{Hold, Track as ToTrack, GroundSpeed as ToSpeed, VerticalSpeed as ToClimb, Altitude as ToHeight}
use Rattle.daa_config.specs.declared.config.Rates.{Rates}
use Rattle.daa_config.specs.declared.kind.Kind.{Kind}
use Rattle.daa_config.specs.declared.kind.Kind.TheVariants.{Track, GroundSpeed, VerticalSpeed, Altitude}
use Rattle.daa_config.specs.declared.level.Level.{Level}
use Rattle.daa_config.specs.declared.limits.Bounds.{Bounds}
use Rattle.daa_config.specs.declared.numbers.Grid.{Grid}
use Rattle.daa_config.specs.declared.numbers.Numbers.{Numbers}
use Rattle.daa_config.specs.Limits.{from_to, full_turn}
use Rattle.daa_config.specs.Numbers.{count_of}

-- the numbers of a configuration, the cylinder that a recovery stays out of where one is asked for, whether a recovery names the value
-- nearest to the present one, whether last times are asked for, and the levels in units; the first of the list is level 1
pub record Settings : Type 0 where
  pub numbers : Numbers
  pub recovery : Option Volume
  pub nearest : Bool
  pub last_times : Bool
  pub levels : List Level

-- the level numbered l, from 1 on
pub record IsLevelAt (settings : Settings) (l : ℕ) (level : Level) : Type 0 where
  pub numbered : 1 ≤ l
  pub there : slice_get settings.levels (l - 1) ≡ Some level

-- by how much a second may change the track, the speeds and the altitude
abbrev pub rates_of : Settings → Rates
rates_of settings = record {
  turn = settings.numbers.turn_rate;
  gs = settings.numbers.gs.rate;
  vs = settings.numbers.vs.rate;
  alt = settings.numbers.alt.rate;
}

-- ---- ranges

-- the number is between the bounds; both belong to them
abbrev pub IsInBounds : Bounds → ℤ → Type 0
IsInBounds bounds z = IsFrom bounds.low bounds.high z

-- what any value of a kind is from and up to: a degree, 0.1 kt, ft/min, ft
abbrev pub value_bounds : Kind → Bounds
value_bounds Track = from_to (pos 0) (pos 359)
value_bounds GroundSpeed = from_to (pos 0) (pos 10000)
value_bounds VerticalSpeed = from_to (neg_ℤ (pos 10000)) (pos 10000)
value_bounds Altitude = from_to (neg_ℤ (pos 2000)) (pos 60000)

-- a candidate whose value its kind can have
abbrev pub IsCandidateInRange : Candidate → Type 0
IsCandidateInRange Hold = Unit {0}
IsCandidateInRange (ToTrack c) = IsInBounds (value_bounds Track) c
IsCandidateInRange (ToSpeed g) = IsInBounds (value_bounds GroundSpeed) g
IsCandidateInRange (ToClimb w) = IsInBounds (value_bounds VerticalSpeed) w
IsCandidateInRange (ToHeight a) = IsInBounds (value_bounds Altitude) a

-- each rate of change is within its bounds
pub record AreRatesInRange (r : Rates) : Type 0 where
  pub turn : IsFrom (pos 1) (pos 30) r.turn
  pub gs : IsFrom (pos 1) (pos 10000) r.gs
  pub vs : IsFrom (pos 1) (pos 10000) r.vs
  pub alt : IsFrom (pos 1) (pos 10000) r.alt

-- min and max of a kind are within the bounds of its values and in order, and the step gives not too many values
pub record IsGridInRange (values : Bounds) (g : Grid) : Type 0 where
  pub least : values.low ≤ℤ g.min
  pub ordered : g.min ≤ℤ g.max
  pub most : g.max ≤ℤ values.high
  pub step : IsFrom (pos 1) (values.high -ℤ values.low) g.step
  pub few : count_of g ≤ 512

-- a level's volume in units, and the seconds that it looks ahead and alerts
pub record IsLevelInRange (level : Level) : Type 0 where
  pub volume : IsVolumeInRange level.volume
  pub dthr_least : 36 ≤ level.volume.dthr
  pub lookahead_least : 1 ≤ level.lookahead
  pub lookahead_most : level.lookahead ≤ 180
  pub alert_least : 1 ≤ level.alert
  pub alert_most : level.alert ≤ 180

-- what a recovery stays out of: a cylinder, since it looks at no time ahead, at least 0.001 NM wide
pub record IsCylinder (cylinder : Volume) : Type 0 where
  pub in_range : IsVolumeInRange cylinder
  pub wide : 36 ≤ cylinder.dthr
  pub tthr : cylinder.tthr ≡ 0
  pub tcoa : cylinder.tcoa ≡ 0
  pub model : cylinder.model ≡ Taumod

-- a configuration that is accepted has its numbers in their ranges
pub record IsAccepted (settings : Settings) : Type 0 where
  pub rates : AreRatesInRange (rates_of settings)
  pub track_step : IsFrom (pos 1) (pos 90) settings.numbers.track_step
  pub divides : full_turn % nat_abs settings.numbers.track_step ≡ 0
  pub gs : IsGridInRange (value_bounds GroundSpeed) settings.numbers.gs
  pub vs : IsGridInRange (value_bounds VerticalSpeed) settings.numbers.vs
  pub alt : IsGridInRange (value_bounds Altitude) settings.numbers.alt
  pub some_level : 1 ≤ length settings.levels
  pub few_levels : length settings.levels ≤ 4
  pub level : (l : ℕ) (level : Level) → IsLevelAt settings l level → IsLevelInRange level
  pub recovery : (cylinder : Volume) → settings.recovery ≡ Some cylinder → IsCylinder cylinder
  pub resolve : IsFrom (pos 1) (pos (length settings.levels)) settings.numbers.resolve
