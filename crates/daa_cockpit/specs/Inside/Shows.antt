-- What a display shows.
use Rattle.std.specs.Prelude.{◌≡◌, ◌<◌, ℕ, List, length, slice_index_or}
use Rattle.daa_config.specs.Settings.{Settings}
use Rattle.daa_screen.specs.Answer.{IsWholeAnswer}
use Rattle.daa_screen.specs.Story.{Story}
use Rattle.daa_cockpit.specs.declared.display.Display.{Display}

-- what is drawn is the answer, under this configuration, after what the display's screen has seen
abbrev pub IsDrawn : Settings → Display → Type 0
IsDrawn settings display = IsWholeAnswer settings display.screen.pictures display.drawing.taken

-- its screen has seen all that was published and nothing else, and that is drawn
pub record ShowsAll (settings : Settings) (published : Story) (display : Display) : Type 0 where
  pub seen : display.screen ≡ published
  pub drawn : IsDrawn settings display

-- its screen is still of the same feed, and its engine under the same configuration
pub record IsSameDisplay (before after : Display) : Type 0 where
  pub feed : after.screen.feed ≡ before.screen.feed
  pub settings : after.engine.settings ≡ before.engine.settings

-- the same displays, at the same places
abbrev pub AllSame : List Display → List Display → Type 0
AllSame before after = (place : ℕ) (default : Display) → place < length before
    → IsSameDisplay (slice_index_or before place default) (slice_index_or after place default)

-- each shows all that was published, under the configuration that its engine had before
abbrev pub AllShow : List Display → Story → List Display → Type 0
AllShow before published after = (place : ℕ) (default : Display) → place < length before
    → ShowsAll (slice_index_or before place default).engine.settings published (slice_index_or after place default)
