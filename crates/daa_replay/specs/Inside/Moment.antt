-- How far the texts of events were written.
use Rattle.std.specs.Prelude.{◌≡◌, ◌++◌, ◌⊎◌, List, [], ◌∷◌}
use Rattle.daa_config.specs.Settings.{Settings}
use Rattle.daa_report.specs.Lines.{Text}
use Rattle.daa_replay.specs.declared.lines.Event.{Event}
use Rattle.daa_replay.specs.Moment.{IsEventText}

module _ (settings : Settings) where
  -- a beginning of the text of the first of these events
  abbrev pub BeginsText : List Event → Text → Type 0
  BeginsText [] begun = begun ≡ []
  BeginsText (event ∷ events) begun = (begun ≡ [])
      ⊎ ((unwritten : Text) × IsEventText settings event (begun ++ unwritten))
