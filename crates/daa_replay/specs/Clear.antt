-- The report of an input, and that what it says is clear in truth.
use Rattle.std.specs.Prelude.{Bool}
use Rattle.daa_config.specs.Settings.{Settings}
use Rattle.daa_lines.specs.LinesOf.{Bytes}
use Rattle.daa_report.specs.Lines.{Text}
use Rattle.daa_bands.specs.Parts.{SplitsByEach}
use Rattle.daa_engine.specs.ClearText.{IsClearText}
use Rattle.daa_replay.specs.declared.lines.Event.{Event}
use Rattle.daa_replay.specs.declared.lines.Event.TheVariants as event
use Rattle.daa_replay.specs.Lines.{events_of}
use Rattle.daa_replay.specs.Moment.{IsEventText}

module _ (settings : Settings) where
  -- the text of an event; of an ended moment it says what is clear in truth
  abbrev pub IsClearEventText : Event → Text → Type 0
  IsClearEventText (event.Refused number fault) text = IsEventText settings (event.Refused number fault) text
  IsClearEventText (event.Ended picture) text = IsClearText settings picture text

  -- the report of the bytes: such a text of each event, in their order
  abbrev pub IsClearReportOf : Bytes → Bool → Text → Type 0
  IsClearReportOf bytes ended text = SplitsByEach IsClearEventText (events_of bytes ended) text
