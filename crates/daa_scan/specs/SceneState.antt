-- A scene as contracts see it, and which of its candidates meet which of its aircraft.
use Rattle.std.specs.Prelude.{ℕ, ◌≡◌, Some, slice_get}
use Rattle.daa_config.specs.declared.candidate.Candidate.{Candidate}
use Rattle.daa_config.specs.Candidates.{candidates_of}
use Rattle.daa_config.specs.Settings.{Settings}
use Rattle.daa_state.specs.declared.word.Picture.{Picture}
use Rattle.daa_state.specs.declared.word.Traffic.{Traffic}
use Rattle.daa_state.specs.Picture.{aircraft_of}
use Rattle.daa_legs.specs.Meeting.{Meets}

-- a configuration and an ended moment
pub record SceneState : Type 0 where
  pub settings : Settings
  pub picture : Picture

-- candidate `index` of the whole list meets the aircraft at the place `at` of the moment's list at level l
pub record MeetsAt (s : SceneState) (index at l : ℕ) : Type 0 where
  pub candidate : Candidate
  pub aircraft : Traffic
  pub listed : slice_get (candidates_of s.settings) index ≡ Some candidate
  pub there : slice_get (aircraft_of s.picture) at ≡ Some aircraft
  pub meets : Meets s.settings s.picture.own candidate aircraft l
