-- What a comparison of a report with that of given states leaves, by how it ends.
use Rattle.std.specs.Prelude.{ℕ, ◌≡◌, ◌⊎◌, true, [], ◌∷◌, codes}
use Rattle.daa_ahead.specs.Bytes.{StreamState}
use Rattle.daa_fixed.specs.One.{HasOne}
use Rattle.daa_config.specs.Settings.{Settings}
use Rattle.daa_judge.specs.Found.{Finds}
use Rattle.daa_judge.specs.declared.found.Found.{Found}
use Rattle.daa_judge.specs.declared.found.Found.TheVariants as found
use Rattle.daa_lines.specs.LinesOf.{Bytes}
use Rattle.daa_report.specs.Lines.{Text, numbers_line}
use Rattle.daa_replay.specs.Outside.{Outside, BreaksSome}
use Rattle.daa_replay.specs.Moment.{IsReportOf}

-- comparing the one report of the states with what the source handed out found this
pub record Judged (settings : Settings) (states : Bytes) (most : ℕ) (result : Found)
    (old new : StreamState) : Type 0 where
  pub report : HasOne (IsReportOf settings states true)
  pub finds : Finds report.one most result old new

-- a comparison with the report of states that reads at most `most` bytes
module _ (settings : Settings) (most : ℕ) (old new : Outside) where
  -- comparing found this
  abbrev pub IsFound : Bytes → Found → Type 0
  IsFound states result = Judged settings states most result old.source new.source

  -- the line is `same`: the bytes are the report
  abbrev pub IsSame : Bytes → Text → Type 0
  IsSame states line = IsFound states found.Alike × (line ≡ codes "same\n")

  -- the line is `differs` and the number of the first line that is not the report's: the bytes are
  -- not the report
  abbrev pub IsDifference : Bytes → Text → Type 0
  IsDifference states line = (number : ℕ) × IsFound states (found.Differs number) × (line ≡ numbers_line (codes "differs") (number ∷ []))

  -- comparing ended before this was known, and nothing was written
  pub record WritesNothing (result : Found) (states : Bytes) : Type 0 where
    pub judged : IsFound states result
    pub sink : new.sink ≡ old.sink

  -- the sink failed, and a beginning of one of these lines was written
  abbrev pub BreaksJudgement : Bytes → Type 0
  BreaksJudgement states = BreaksSome (λ line. IsSame states line ⊎ IsDifference states line) old.sink new.sink
