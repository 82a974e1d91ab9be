-- Runs: legs of one velocity, one after the other.
use Rattle.std.specs.Prelude.{ℕ, ◌≡◌, ◌≢◌, ◌+◌, ◌<◌, ◌≤◌}
use Rattle.daa_taumod.specs.declared.Volume.{Volume}
use Rattle.daa_config.specs.declared.candidate.Candidate.{Candidate}
use Rattle.daa_config.specs.declared.config.Rates.{Rates}
use Rattle.daa_config.specs.Settings.{Settings}
use Rattle.daa_state.specs.declared.word.Own.{Own}
use Rattle.daa_state.specs.declared.word.Traffic.{Traffic}
use Rattle.daa_legs.specs.declared.own_leg.OwnLeg.{OwnLeg}
use Rattle.daa_legs.specs.declared.own_leg.OwnRun.{OwnRun}
use Rattle.daa_legs.specs.OwnLeg.{place_on, IsOwnLegInRange}
use Rattle.daa_legs.specs.Motion.{velocity_on}
use Rattle.daa_legs.specs.Meeting.{ViolatesOn}

-- the first second of a run
abbrev pub first_leg_of : OwnRun → OwnLeg
first_leg_of run = record { place = run.place; velocity = run.velocity }

-- the run is the legs from k on, which all have its velocity
pub record IsRunOf (own : Own) (rates : Rates) (candidate : Candidate) (k : ℕ) (run : OwnRun) : Type 0 where
  pub begins : run.place ≡ place_on own rates candidate k
  pub same : (j : ℕ) → j < run.secs → velocity_on own rates candidate (k + j) ≡ run.velocity

-- it has at least one leg and at most `most`, and ends before `most` only where the next leg has another velocity
pub record IsLongest (own : Own) (rates : Rates) (candidate : Candidate) (k most : ℕ) (run : OwnRun) : Type 0 where
  pub some : 1 ≤ run.secs
  pub within : run.secs ≤ most
  pub ends : run.secs < most → velocity_on own rates candidate (k + run.secs) ≢ run.velocity

-- its first leg is in range, and it has at least one
pub record IsOwnRunInRange (run : OwnRun) : Type 0 where
  pub leg : IsOwnLegInRange (first_leg_of run)
  pub some : 1 ≤ run.secs

-- the volume is violated on one of the legs from `first` on, before `upto`
pub record MeetsBetween (settings : Settings) (own : Own) (candidate : Candidate) (aircraft : Traffic) (volume : Volume) (first upto : ℕ) : Type 0 where
  pub leg : ℕ
  pub not_before : first ≤ leg
  pub before : leg < upto
  pub violates : ViolatesOn settings own candidate aircraft volume leg
