-- The levels at which a candidate is covered.
use Rattle.std.specs.Prelude.{ℕ}
use Rattle.daa_config.specs.Settings.{Settings}
use Rattle.daa_state.specs.declared.word.Picture.{Picture}
use Rattle.daa_scan.specs.SceneState.{MeetsAt}

-- the candidate at an index of the whole list is covered at level l: it meets some aircraft of the picture at that level
abbrev pub CoveredAt : Settings → Picture → (index l : ℕ) → Type 0
CoveredAt settings picture index l = (place : ℕ) × MeetsAt (record { settings = settings; picture = picture }) index place l
