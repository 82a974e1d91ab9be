-- What a run leaves, by how it ends and by its task.
use Rattle.std.specs.Prelude.{ℕ, ◌≤◌, true, false, Option, length}
use Rattle.daa_ahead.specs.Moves.{ReadFails, PassesMost}
use Rattle.daa_config.specs.Settings.{Settings}
use Rattle.daa_judge.specs.declared.found.Found.TheVariants as found
use Rattle.daa_lines.specs.LinesOf.{Bytes}
use Rattle.daa_io.specs.Shelf.{Texts, longest_text}
use Rattle.daa_report.specs.Lines.{Text}
use Rattle.daa_exercise.specs.Summary.{IsSummaryOf}
use Rattle.daa_words.specs.Task.{Task, Replay, Exercise, Judge}
use Rattle.daa_replay.specs.declared.status.Status.{Status}
use Rattle.daa_replay.specs.declared.status.Status.TheVariants.{Accepted, Refused, SourceFault, SinkFault, Limit}
use Rattle.daa_replay.specs.Judge.{IsSame, IsDifference, WritesNothing, BreaksJudgement}
use Rattle.daa_replay.specs.Opening.{IsHeld}
use Rattle.daa_replay.specs.Outside.{Outside, TakesSome, OnlyWrites, OnlyBreaks}
use Rattle.daa_replay.specs.Replay.{Reports, ReportsAll, WriteFails}

-- P holds of the states that the shelf holds under the name, which are not too long
pub record OfStates (texts : Option Texts) (name : Text) (P : Bytes → Type 0) : Type 0 where
  pub states : Bytes
  pub held : IsHeld texts name states
  pub short : length states ≤ longest_text
  pub so : P states

module _ (most : ℕ) (old new : Outside) where
  -- what a run of a task leaves. Accepted: the input was read to its end, and no line of it was
  -- refused; the exercise ended; the report is that of the states. Refused: the input was read to
  -- its end, and some line of it was refused; the report is not that of the states. SourceFault: the
  -- source failed, and the report of what was read by then was written, or nothing of a comparison.
  -- SinkFault: the sink failed, and a beginning was written. Limit: the limit of bytes was read, and
  -- then one byte more; the report of the bytes before it was written, or nothing of a comparison
  abbrev pub Ends : Status → Task → Settings → Type 0
  Ends Accepted (Replay ahead) settings = ReportsAll settings most old new false
  Ends Accepted (Exercise seed moments) settings = OnlyWrites (IsSummaryOf settings seed moments) old new
  Ends Accepted (Judge name) settings =
      OfStates old.shelf.texts name (λ states. TakesSome (IsSame settings most old new states) old.sink new.sink)
  Ends Refused (Replay ahead) settings = ReportsAll settings most old new true
  Ends Refused (Judge name) settings =
      OfStates old.shelf.texts name (λ states. TakesSome (IsDifference settings most old new states) old.sink new.sink)
  Ends SourceFault (Replay ahead) settings = Reports settings most old new ReadFails false
  Ends SourceFault (Judge name) settings = OfStates old.shelf.texts name (WritesNothing settings most old new found.Fault)
  Ends SinkFault (Replay ahead) settings = WriteFails settings most old new ahead
  Ends SinkFault (Exercise seed moments) settings = OnlyBreaks (IsSummaryOf settings seed moments) old new
  Ends SinkFault (Judge name) settings = OfStates old.shelf.texts name (BreaksJudgement settings most old new)
  Ends Limit (Replay ahead) settings = Reports settings most old new (PassesMost most) false
  Ends Limit (Judge name) settings = OfStates old.shelf.texts name (WritesNothing settings most old new found.Limit)
  Ends _ _ _ = ⊥
