-- The report of an input.
use Rattle.std.specs.Prelude.{◌≡◌, [], ◌∷◌, ◌++◌, Bool, codes}
use Rattle.daa_config.specs.Settings.{Settings}
use Rattle.daa_lines.specs.LinesOf.{Bytes}
use Rattle.daa_state.specs.Fault.{code_of}
use Rattle.daa_report.specs.Lines.{Text, numbers_line}
use Rattle.daa_bands.specs.Parts.{SplitsByEach}
use Rattle.daa_engine.specs.MomentText.{IsMomentText}
use Rattle.daa_replay.specs.declared.lines.Event.{Event}
use Rattle.daa_replay.specs.declared.lines.Event.TheVariants as event
use Rattle.daa_replay.specs.Lines.{events_of}

module _ (settings : Settings) where
  -- the text of an event: of a refusal one line, with the refused line's number and the fault's
  -- code; of an ended moment its lines
  abbrev pub IsEventText : Event → Text → Type 0
  IsEventText (event.Refused number fault) text = text ≡ numbers_line (codes "refused") (number ∷ code_of fault ∷ [])
  IsEventText (event.Ended picture) text = IsMomentText settings picture text

  -- the report of the bytes, which are the whole input where it has ended, and else its beginning:
  -- the text of each event, in their order
  abbrev pub IsReportOf : Bytes → Bool → Text → Type 0
  IsReportOf bytes ended text = SplitsByEach IsEventText (events_of bytes ended) text

  -- a beginning of the report
  abbrev pub IsReportFront : Bytes → Bool → Text → Type 0
  IsReportFront bytes ended front = (unwritten : Text) × IsReportOf bytes ended (front ++ unwritten)
