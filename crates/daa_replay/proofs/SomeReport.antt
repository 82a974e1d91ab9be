-- Every picture that an input ends is in range, and so the input has a report.
use Rattle.std.proofs.Common.{suc, arith, Bool, List, [], ◌∷◌, ◌++◌, refl, subst}
use Rattle.std.specs.Prelude.{All, IfOk, codes}
use Rattle.std.proofs.lemmas.Result.{IfOk-weaker}
use Rattle.daa_fixed.specs.One.{HasOne}
use Rattle.daa_bands.specs.Parts.{SplitsByEach}
use Rattle.daa_config.specs.Settings.{Settings, IsAccepted}
use Rattle.daa_lines.specs.LinesOf.{Bytes, lines_of}
use Rattle.daa_state.specs.Fault.{code_of}
use Rattle.daa_state.specs.InRange.{IsWordInRange, IsPictureInRange}
use Rattle.daa_state.specs.MomentStep.{MomentsState, start, step}
use Rattle.daa_state.specs.WordOf.{word_of}
use Rattle.daa_state.proofs.CheckedLemmas.{IfOk-with}
use Rattle.daa_state.proofs.WordRanges.{word_of-range}
use Rattle.daa_state.proofs.StepRanges.{IsStateInRange, step-range}
use Rattle.daa_report.specs.Lines.{Text, numbers_line}
use Rattle.daa_engine.proofs.SomeText.{one_text}
use Rattle.daa_replay.specs.declared.lines.Event.{Event}
use Rattle.daa_replay.specs.declared.lines.Event.TheVariants as event
use Rattle.daa_replay.specs.Lines.{line_step, events_of, IsEventInRange}
use Rattle.daa_replay.specs.Moment.{IsEventText, IsReportOf, IsReportFront}
use Rattle.daa_replay.proofs.PictureLemmas.{Leaves, each_picture}
use Rattle.daa_replay.proofs.OneReport.{report_once, front_begins}
use Rattle.daa_replay.proofs.ReportLemmas.{IsBegun}

-- ---- events in range

line_leaves : (state : MomentsState) (line : Bytes) → Unit {0} → IsStateInRange state → IfOk (line_step state line) (Leaves IsStateInRange IsPictureInRange)
line_leaves state line any h =
    IfOk-with IsWordInRange (Leaves IsStateInRange IsPictureInRange) (word_of line state.format) (step state) (word_of-range line state.format)
    (λ word w. IfOk-weaker (step state word) _ _ (λ next n. record { state = n.state; picture = n.picture }) (step-range state word h w))

pub events_in_range : (bytes : Bytes) (ended : Bool) → All IsEventInRange (events_of bytes ended)
unfolding events_of
events_in_range bytes ended = each_picture (λ line. Unit {0}) IsStateInRange IsPictureInRange line_leaves start 1 ended (lines_of bytes ended) tt (λ k d l. tt)

-- ---- their texts

module _ (settings : Settings) (accepted : IsAccepted settings) where
  some_event_text : (e : Event) → IsEventInRange e → (text : Text) × IsEventText settings e text
  some_event_text (event.Refused number fault) h = (numbers_line (codes "refused") (number ∷ code_of fault ∷ []), refl)
  some_event_text (event.Ended picture) h = let t = one_text settings picture accepted h in (t.one, t.is)

  some_texts : (events : List Event) → All IsEventInRange events → (text : Text) × SplitsByEach (IsEventText settings) events text
  some_texts [] h = ([], refl)
  some_texts (e ∷ events) h =
      let first = some_event_text e (h 0 e (omega arith)) in
      let rest = some_texts events (λ k d l. h (suc k) d (omega arith)) in
      (first.0 ++ rest.0, record { first = first.0; second = rest.0; first_is = first.1; second_is = rest.1; joined = refl })

  pub one_report : (bytes : Bytes) (ended : Bool) → HasOne (IsReportOf settings bytes ended)
  one_report bytes ended =
      let t = some_texts (events_of bytes ended) (events_in_range bytes ended) in
      record { one = t.0; is = t.1; only = λ other h. report_once settings accepted bytes ended other t.0 h t.1 }

  -- what was written event by event is a beginning of the report
  pub begun-front : (bytes : Bytes) (ended : Bool) (front : Text) → IsBegun settings bytes ended front → IsReportFront settings bytes ended front
  begun-front bytes ended front f =
      let one = one_report bytes ended in
      let rest = front_begins settings accepted bytes ended front one.one f one.is in
      (rest.0, subst (IsReportOf settings bytes ended) rest.1 one.is)
