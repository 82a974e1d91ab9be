-- What is looked at of a delayed flight: its legs from second m on.
use Rattle.std.specs.Prelude.{ℕ, ◌≡◌, ◌<◌, ◌≤◌, Some, slice_get}
use Rattle.daa_taumod.specs.declared.Volume.{Volume}
use Rattle.daa_config.specs.declared.candidate.Candidate.{Candidate}
use Rattle.daa_config.specs.declared.level.Level.{Level}
use Rattle.daa_config.specs.Settings.{Settings}
use Rattle.daa_state.specs.declared.word.Own.{Own}
use Rattle.daa_state.specs.declared.word.Picture.{Picture}
use Rattle.daa_state.specs.declared.word.Traffic.{Traffic}
use Rattle.daa_state.specs.Picture.{aircraft_of}
use Rattle.daa_recovery.specs.OutlookState.{Closes}
use Rattle.daa_last.specs.Delayed.{ViolatesDelayed}

module _ (settings : Settings) (own : Own) (candidate : Candidate) (m : ℕ) (aircraft : Traffic) where
  -- the volume is violated on a leg from leg first on, before the leg upto
  pub record MeetsLate (volume : Volume) (first upto : ℕ) : Type 0 where
    pub leg : ℕ
    pub not_before : first ≤ leg
    pub before : leg < upto
    pub violates : ViolatesDelayed settings own candidate m aircraft volume leg

  -- the aircraft violates a level that closes on a leg from leg first on, before the level's lookahead
  pub record IsClosedLate (first : ℕ) : Type 0 where
    pub number : ℕ
    pub level : Level
    pub closes : Closes settings number level
    pub meets : MeetsLate level.volume first level.lookahead

  -- the aircraft violates a level that closes on leg k, before the level's lookahead
  pub record IsStruckBy (k : ℕ) : Type 0 where
    pub number : ℕ
    pub level : Level
    pub closes : Closes settings number level
    pub before : k < level.lookahead
    pub violates : ViolatesDelayed settings own candidate m aircraft level.volume k

-- the same of some aircraft of the moment
module _ (settings : Settings) (picture : Picture) (candidate : Candidate) (m : ℕ) where
  pub record IsClosedLateOfSome (first : ℕ) : Type 0 where
    pub place : ℕ
    pub aircraft : Traffic
    pub there : slice_get (aircraft_of picture) place ≡ Some aircraft
    pub is : IsClosedLate settings picture.own candidate m aircraft first

  pub record IsStruck (k : ℕ) : Type 0 where
    pub place : ℕ
    pub aircraft : Traffic
    pub there : slice_get (aircraft_of picture) place ≡ Some aircraft
    pub is : IsStruckBy settings picture.own candidate m aircraft k
