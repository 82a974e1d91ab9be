-- Whether a candidate's flight violates a level's volume round an aircraft, or may in truth, where what is reported may err.
use Rattle.std.specs.Prelude.{ℕ, ◌<◌}
use Rattle.daa_fixed.specs.Time.{HoldsSometime}
use Rattle.daa_fixed.specs.declared.Leg.{Leg}
use Rattle.daa_taumod.specs.declared.Volume.{Volume}
use Rattle.daa_config.specs.declared.candidate.Candidate.{Candidate}
use Rattle.daa_config.specs.declared.level.Level.{Level}
use Rattle.daa_config.specs.Settings.{Settings, IsLevelAt, rates_of}
use Rattle.daa_state.specs.declared.word.Own.{Own}
use Rattle.daa_state.specs.declared.word.Traffic.{Traffic}
use Rattle.daa_legs.specs.OwnLeg.{own_leg}
use Rattle.daa_legs.specs.Relative.{relative_for}
use Rattle.daa_legs.specs.Violating.{ViolatesBy}

module _ (settings : Settings) (own : Own) (candidate : Candidate) (aircraft : Traffic) where
  -- leg k, one second, as the aircraft sees it
  abbrev pub relative_leg : ℕ → Leg
  relative_leg k = relative_for 1 (own_leg own (rates_of settings) candidate k) aircraft k

  -- the volume is violated at some time of leg k, its beginning and its end among them
  abbrev pub ViolatesOn : Volume → ℕ → Type 0
  ViolatesOn volume k = HoldsSometime 1 (ViolatesBy aircraft k (relative_leg k) volume)

  -- the volume is violated on one of the legs before m, within m seconds
  pub record MeetsWithin (volume : Volume) (m : ℕ) : Type 0 where
    pub leg : ℕ
    pub before : leg < m
    pub violates : ViolatesOn volume leg

  -- the candidate meets the aircraft at level l: l is a level, and its volume is violated within its lookahead
  pub record Meets (l : ℕ) : Type 0 where
    pub level : Level
    pub there : IsLevelAt settings l level
    pub meets : MeetsWithin level.volume level.lookahead
