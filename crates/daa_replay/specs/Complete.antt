-- How a run ends if nothing fails, by its words, the shelf and the number of bytes.
use Rattle.std.specs.Prelude.{ℕ, ◌≡◌, ◌≢◌, ◌<◌, ◌≤◌, ◌⊎◌, ◌++◌, true, List, Option, Some, None, length, take}
use Rattle.daa_io.specs.Faults.{HasRisen}
use Rattle.daa_io.specs.Shelf.{Texts}
use Rattle.daa_config.specs.Settings.{Settings}
use Rattle.daa_lines.specs.LinesOf.{Bytes}
use Rattle.daa_report.specs.Lines.{Text}
use Rattle.daa_words.specs.Order.{order_of}
use Rattle.daa_words.specs.Task.{Task, Replay, Exercise}
use Rattle.daa_replay.specs.Outside.{Outside}
use Rattle.daa_replay.specs.Opening.{Opens, OpensStates, OpensLong, IsRefused, HoldsNone, HoldsNoStates}
use Rattle.daa_replay.specs.Moment.{IsReportOf}
use Rattle.daa_replay.specs.Run.{Runs}

-- no fault counter rose
pub record IsQuiet (old new : Outside) : Type 0 where
  pub shelf : ¬ HasRisen old.shelf.faults new.shelf.faults
  pub source : ¬ HasRisen old.source.faults new.source.faults
  pub sink : ¬ HasRisen old.sink.faults new.sink.faults

-- the words are taken and ask for this task;
-- the shelf shows its texts, and holds an accepted configuration under the name
-- that the words give
pub record HoldsAccepted (words : List Text) (texts : Option Texts) (task : Task) : Type 0 where
  pub held : Texts
  pub told : texts ≡ Some held
  pub settings : Settings
  pub opens : Opens words texts task settings

-- the same with a configuration that is refused
pub record HoldsRefused (words : List Text) (texts : Option Texts) : Type 0 where
  pub held : Texts
  pub told : texts ≡ Some held
  pub code : ℕ
  pub refused : IsRefused words texts code

-- the words are taken and ask for a comparison; the shelf shows its texts, and holds an accepted
-- configuration and these states
pub record HoldsStates (words : List Text) (texts : Option Texts) (settings : Settings)
    (states : Text) : Type 0 where
  pub held : Texts
  pub told : texts ≡ Some held
  pub opens : OpensStates words texts settings states

-- the same with states that are too long
pub record HoldsLong (words : List Text) (texts : Option Texts) : Type 0 where
  pub held : Texts
  pub told : texts ≡ Some held
  pub opens : OpensLong words texts

-- the report of the states begins with these bytes
abbrev pub BeginsReport : Settings → Text → Bytes → Type 0
BeginsReport settings states bytes = (rest : Text) × IsReportOf settings states true (bytes ++ rest)

-- a replay of these bytes with an accepted configuration, in which no fault counter rose
pub record IsQuietReplay (words : List Text) (old new : Outside) (all : Bytes) : Type 0 where
  pub ahead : ℕ
  pub accepted : HoldsAccepted words old.shelf.texts (Replay ahead)
  pub told : old.source.bytes ≡ Some all
  pub quiet : IsQuiet old new

-- a comparison of these bytes with the report of states that the shelf holds
pub record IsComparison (words : List Text) (old : Outside) (settings : Settings)
    (states all : Bytes) : Type 0 where
  pub held : HoldsStates words old.shelf.texts settings states
  pub told : old.source.bytes ≡ Some all

-- what the status of a comparison says of these bytes, of which at most `most` are read
pub record Decides (most status : ℕ) (old new : Outside) (settings : Settings)
    (states all : Bytes) : Type 0 where
  -- whatever failed, at 0 they are the report of the states, and at 1 they are not
  pub same : status ≡ 0 → IsReportOf settings states true all
  pub other : status ≡ 1 → IsReportOf settings states true all → ⊥
  -- if no fault counter rose and all bytes may be read, it says one of the two, or 6
  pub short : IsQuiet old new → length all ≤ most → (status ≡ 0) ⊎ ((status ≡ 1) ⊎ (status ≡ 6))
  -- if there are more bytes than may be read, it says whether the report begins with those that may
  -- be read: it does at 8, and does not at 1
  pub long : IsQuiet old new → most < length all → (status ≡ 8) ⊎ ((status ≡ 1) ⊎ (status ≡ 6))
  pub begins : status ≡ 8 → BeginsReport settings states (take most all)
  pub parts : status ≡ 1 → most < length all → BeginsReport settings states (take most all) → ⊥

-- how a run ends, as far as the words, the shelf and the number of bytes say it; memory may run out
-- in each case
pub record EndsAsGiven (most : ℕ) (words : List Text) (status : ℕ)
    (old new : Outside) : Type 0 where
  -- a replay with an accepted configuration, in which no fault counter rose: by the number of bytes
  pub short : (all : Bytes) → IsQuietReplay words old new all → length all ≤ most
      → (status ≡ 0) ⊎ ((status ≡ 1) ⊎ (status ≡ 6))
  pub long : (all : Bytes) → IsQuietReplay words old new all → most < length all
      → (status ≡ 8) ⊎ (status ≡ 6)
  -- an exercise with an accepted configuration, in which no fault counter rose
  pub exercise : (seed moments : ℕ) → HoldsAccepted words old.shelf.texts (Exercise seed moments)
      → IsQuiet old new → (status ≡ 0) ⊎ (status ≡ 6)
  -- a comparison with the report of states that the shelf holds, or that are too long or not there
  pub compared : (settings : Settings) (states all : Bytes)
      → IsComparison words old settings states all
      → Decides most status old new settings states all
  pub states_long : HoldsLong words old.shelf.texts
      → (status ≡ 5) ⊎ ((status ≡ 6) ⊎ ((status ≡ 7) ⊎ (status ≡ 9)))
  pub no_states : HoldsNoStates words old.shelf.texts → (status ≡ 6) ⊎ (status ≡ 7)
  pub not_taken : order_of words ≡ None → (status ≡ 2) ⊎ ((status ≡ 5) ⊎ (status ≡ 6))
  pub rejected : HoldsRefused words old.shelf.texts
      → (status ≡ 3) ⊎ ((status ≡ 5) ⊎ ((status ≡ 6) ⊎ (status ≡ 7)))
  pub missing : HoldsNone words old.shelf.texts → (status ≡ 6) ⊎ (status ≡ 7)
  -- a status of a fault is returned only if the object's fault counter rose
  pub no_read_fault : ¬ HasRisen old.source.faults new.source.faults → status ≢ 4
  pub no_write_fault : ¬ HasRisen old.sink.faults new.sink.faults → status ≢ 5
  pub no_fetch_fault : ¬ HasRisen old.shelf.faults new.shelf.faults → status ≢ 7

-- every run ends so
abbrev pub RunsAreComplete : Type 0
RunsAreComplete = (most status : ℕ) (words : List Text) (old new : Outside)
    → Runs most words status old new → EndsAsGiven most words status old new
