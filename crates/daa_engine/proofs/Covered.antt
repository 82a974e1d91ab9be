-- What the first aircraft cover.
use Rattle.std.specs.Prelude.{◌<◌, ℕ}
use Rattle.daa_config.specs.Settings.{Settings}
use Rattle.daa_state.specs.declared.word.Picture.{Picture}
use Rattle.daa_scan.specs.SceneState.{SceneState, MeetsAt}

-- the scene of a configuration and a picture
abbrev pub scene_of : Settings → Picture → SceneState
scene_of settings picture = record { settings = settings; picture = picture }

module _ (scene : SceneState) where
  -- the candidate meets one of the first aircraft
  abbrev pub CoveredBelow : (count index l : ℕ) → Type 0
  CoveredBelow count index l = (place : ℕ) × (place < count) × MeetsAt scene index place l
