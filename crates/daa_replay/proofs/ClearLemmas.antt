-- What a report says is clear in truth.
use Rattle.std.proofs.Common.{List, [], ◌∷◌}
use Rattle.daa_config.specs.Settings.{IsAccepted, Settings}
use Rattle.daa_report.specs.Lines.{Text}
use Rattle.daa_bands.specs.Parts.{SplitsByEach}
use Rattle.daa_engine.proofs.ClearTextLemmas.{text_clear}
use Rattle.daa_replay.specs.declared.lines.Event.{Event}
use Rattle.daa_replay.specs.declared.lines.Event.TheVariants as event
use Rattle.daa_replay.specs.Clear.{IsClearEventText}
use Rattle.daa_replay.specs.Moment.{IsEventText}

module _ (settings : Settings) (ok : IsAccepted settings) where
  event_clear : (found : Event) (text : Text) → IsEventText settings found text → IsClearEventText settings found text
  event_clear (event.Refused number fault) text is = is
  event_clear (event.Ended picture) text is = text_clear settings picture ok text is

  pub events_clear : (events : List Event) (text : Text) → SplitsByEach (IsEventText settings) events text → SplitsByEach (IsClearEventText settings) events text
  events_clear [] text is = is
  events_clear (found ∷ events) text is = record {
    first = is.first;
    second = is.second;
    first_is = event_clear found is.first is.first_is;
    second_is = events_clear events is.second is.second_is;
    joined = is.joined;
  }
