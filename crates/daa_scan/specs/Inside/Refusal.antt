-- Which seconds of a kind's candidates may violate a volume round an aircraft.
use Rattle.std.specs.Prelude.{ℕ, ℤ, pos, ◌+ℤ◌, ◌*ℤ◌, ◌<◌, ◌≤◌}
use Rattle.daa_fixed.specs.Time.{IsTime}
use Rattle.daa_fixed.specs.declared.Leg.{Leg}
use Rattle.daa_taumod.specs.Volume.{ViolatesVertically}
use Rattle.daa_taumod.specs.declared.Volume.{Volume}
use Rattle.daa_config.specs.declared.kind.Kind.{Kind}
use Rattle.daa_config.specs.declared.kind.Kind.TheVariants.{Track, GroundSpeed, VerticalSpeed, Altitude}
use Rattle.daa_config.specs.declared.level.Level.{Level}
use Rattle.daa_config.specs.Candidates.{candidate_to}
use Rattle.daa_config.specs.Settings.{Settings}
use Rattle.daa_state.specs.declared.word.Own.{Own}
use Rattle.daa_state.specs.declared.word.Traffic.{Traffic}
use Rattle.daa_legs.specs.Meeting.{ViolatesOn}
use Rattle.daa_scan.specs.declared.refusal.Seconds.{Seconds}
use Rattle.daa_scan.specs.declared.refusal.Windows.{Windows}

-- the seconds of a kind
abbrev pub window_of : Windows → Kind → Seconds
window_of windows Track = windows.turns
window_of windows GroundSpeed = windows.turns
window_of windows VerticalSpeed = windows.climbs
window_of windows Altitude = windows.climbs

-- second k is one of them
pub record IsSecondOf (seconds : Seconds) (k : ℕ) : Type 0 where
  pub from : seconds.begin ≤ k
  pub upto : k < seconds.end

-- a second of the leg, flown on for 180 seconds, is one of them where the vertical part of the volume holds at a time of it
abbrev pub AreSecondsInHeight : Leg → Volume → Seconds → Type 0
AreSecondsInHeight leg volume seconds = (k : ℕ) (n d : ℤ) → k < 180 → IsTime 1 n d → ViolatesVertically leg volume (n +ℤ pos k *ℤ d) d → IsSecondOf seconds k

module _ (settings : Settings) (own : Own) (aircraft : Traffic) where
  -- no candidate of the kind violates the volume on one of the first m legs before them, nor on any leg after them
  pub record AreSecondsOf (kind : Kind) (volume : Volume) (m : ℕ) (seconds : Seconds) : Type 0 where
    pub before : (z : ℤ) (k : ℕ) → k < m → k < seconds.begin → ¬ ViolatesOn settings own (candidate_to kind z) aircraft volume k
    pub after : (z : ℤ) (k : ℕ) → k < 180 → seconds.end ≤ k → ¬ ViolatesOn settings own (candidate_to kind z) aircraft volume k

  -- the same of each kind, at a level
  abbrev pub AreWindowsOf : Level → Windows → Type 0
  AreWindowsOf level windows = (kind : Kind) → AreSecondsOf kind level.volume level.lookahead (window_of windows kind)
