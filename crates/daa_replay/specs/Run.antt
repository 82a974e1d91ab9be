-- What a run of the program leaves at its shelf, its source and its sink, by its status.
use Rattle.std.specs.Prelude.{ℕ, ◌≡◌, ◌≢◌, ◌≤◌, ◌⊎◌, List, [], ◌∷◌, Option, Some, None, codes}
use Rattle.daa_io.specs.Faults.{HasRisen}
use Rattle.daa_io.specs.Shelf.{Texts}
use Rattle.daa_config.specs.Settings.{Settings}
use Rattle.daa_report.specs.Lines.{Text, numbers_line}
use Rattle.daa_words.specs.Order.{Asked, order_of}
use Rattle.daa_words.specs.Task.{Task}
use Rattle.daa_replay.specs.Outside.{Outside, OnlyWrites, OnlyBreaks}
use Rattle.daa_replay.specs.Opening.{usage_line, Opens, OpensLong, IsRefused}
use Rattle.daa_replay.specs.Tasks.{Ends}
use Rattle.daa_replay.specs.declared.status.Status.TheVariants.{Accepted, Refused, SourceFault, SinkFault, Limit}

-- the words are taken, and P holds of their task under the configuration that they and the shelf
-- give
pub record Under (words : List Text) (texts : Option Texts)
    (P : Task → Settings → Type 0) : Type 0 where
  pub task : Task
  pub settings : Settings
  pub opens : Opens words texts task settings
  pub so : P task settings

-- the line in place of a report is the usage line: the words are not taken
abbrev pub IsUsage : List Text → Text → Type 0
IsUsage words line = (order_of words ≡ None) × (line ≡ usage_line)

-- the line in place of a report has the code of the configuration, which is refused
abbrev pub IsCode : List Text → Option Texts → Text → Type 0
IsCode words texts line = (code : ℕ) × IsRefused words texts code × (line ≡ numbers_line (codes "config") (code ∷ []))

-- the line in place of a report is `states long`: the states are too long
abbrev pub IsLong : List Text → Option Texts → Text → Type 0
IsLong words texts line = OpensLong words texts × (line ≡ codes "states long\n")

-- the line is one of these three lines in place of a report
abbrev pub IsLine : List Text → Option Texts → Text → Type 0
IsLine words texts line = IsUsage words line ⊎ (IsCode words texts line ⊎ IsLong words texts line)

-- the sink failed within such a line, or within what the task writes
abbrev pub Breaks : ℕ → List Text → Outside → Outside → Type 0
Breaks most words old new =
    OnlyBreaks (IsLine words old.shelf.texts) old new ⊎ Under words old.shelf.texts (Ends most old new SinkFault)

-- nothing was read and nothing was written
pub record IsUntouched (old new : Outside) : Type 0 where
  pub source : new.source ≡ old.source
  pub sink : new.sink ≡ old.sink

-- the words are taken, the shelf failed, and nothing was read or written
pub record FetchFails (words : List Text) (old new : Outside) : Type 0 where
  pub asked : Asked
  pub taken : order_of words ≡ Some asked
  pub risen : HasRisen old.shelf.faults new.shelf.faults
  pub untouched : IsUntouched old new

-- what a run that reads at most `most` bytes leaves, by its status
pub record Runs (most : ℕ) (words : List Text) (status : ℕ) (old new : Outside) : Type 0 where
  pub named : status ≤ 9
  -- 0 and 1: the input was read to its end, and no line of it was refused (0), or some (1); an
  -- exercise ended (0); a report is that of the states (0), or is not (1)
  pub accepted : status ≡ 0 → Under words old.shelf.texts (Ends most old new Accepted)
  pub refused : status ≡ 1 → Under words old.shelf.texts (Ends most old new Refused)
  pub not_taken : status ≡ 2 → OnlyWrites (IsUsage words) old new
  pub bad_configuration : status ≡ 3 → OnlyWrites (IsCode words old.shelf.texts) old new
  pub read_fault : status ≡ 4 → Under words old.shelf.texts (Ends most old new SourceFault)
  pub write_fault : status ≡ 5 → Breaks most words old new
  -- nothing was read or written; that there was no memory is meant, and no clause can say it
  pub no_memory : status ≡ 6 → IsUntouched old new
  pub fetch_fault : status ≡ 7 → FetchFails words old new
  pub limit : status ≡ 8 → Under words old.shelf.texts (Ends most old new Limit)
  pub states_long : status ≡ 9 → OnlyWrites (IsLong words old.shelf.texts) old new
  -- the shelf keeps its texts, and fails at status 7 alone
  pub texts : new.shelf.texts ≡ old.shelf.texts
  pub shelf_calm : status ≢ 7 → new.shelf.faults ≡ old.shelf.faults
  -- no fault counter falls
  pub fetches : old.shelf.faults ≤ new.shelf.faults
  pub reads : old.source.faults ≤ new.source.faults
  pub writes : old.sink.faults ≤ new.sink.faults
