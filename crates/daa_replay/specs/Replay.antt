-- What a replay under a configuration leaves at its source and its sink, by how it ends.
use Rattle.std.specs.Prelude.{ℕ, ◌≡◌, ◌≤◌, ◌+◌, ◌++◌, [], Bool, true, length}
use Rattle.std.specs.List.{list_any}
use Rattle.daa_config.specs.Settings.{Settings}
use Rattle.daa_lines.specs.LinesOf.{Bytes}
use Rattle.daa_replay.specs.Lines.{events_of, is_refusal}
use Rattle.daa_ahead.specs.Bytes.{StreamState, HandsOut}
use Rattle.daa_ahead.specs.Moves.{ReadsAll}
use Rattle.daa_replay.specs.Outside.{Outside, TakesSome, BreaksSome}
use Rattle.daa_replay.specs.Moment.{IsReportOf}

-- a replay that reads at most `most` bytes
module _ (settings : Settings) (most : ℕ) (old new : Outside) where
  -- the source handed out bytes as `Reads` says, and their report was written; they are the whole
  -- input where it has ended, and else its beginning
  pub record Reports (Reads : StreamState → StreamState → Bytes → Type 0) (ended : Bool) : Type 0 where
    pub bytes : Bytes
    pub bound : length bytes ≤ most
    pub read : Reads old.source new.source bytes
    pub written : TakesSome (IsReportOf settings bytes ended) old.sink new.sink

  -- the input was read to its end, and its report was written; a line of it was refused, or none
  pub record ReportsAll (refused : Bool) : Type 0 where
    pub reports : Reports ReadsAll true
    pub refusals : list_any is_refusal (events_of reports.bytes true) ≡ refused

  -- the sink failed, and a beginning of the report of these bytes was written; with its end only if
  -- they are the whole input. A source that is read ahead may have handed out more by then, one byte
  -- past the limit at most, and may have failed; one that is not read ahead has done neither
  pub record WriteFails (ahead : ℕ) : Type 0 where
    pub bytes : Bytes
    pub bound : length bytes ≤ most
    pub unreported : Bytes
    pub handed : HandsOut (most + 1) old.source new.source (bytes ++ unreported)
    pub in_turn : ahead ≡ 0 → unreported ≡ []
    pub read_calm : ahead ≡ 0 → new.source.faults ≡ old.source.faults
    pub ended : Bool
    pub over : ended ≡ true → ReadsAll old.source new.source bytes
    pub written : BreaksSome (IsReportOf settings bytes ended) old.sink new.sink
