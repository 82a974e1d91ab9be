-- The status of a run, and what is left where a run without a configuration says why.
use Rattle.std.specs.Prelude.{ℕ, List, Option, None, Some, ◌≡◌, ◌≤◌, ◌⊎◌, [], ◌∷◌, codes}
use Rattle.std.specs.Io.KnownBytes.{Appends}
use Rattle.daa_replay.specs.declared.status.Status.{Status}
use Rattle.daa_replay.specs.declared.status.Status.TheVariants.{Accepted, Refused, NotTaken, BadConfiguration, SourceFault, SinkFault, NoMemory, ShelfFault, Limit, StatesLong}
use Rattle.daa_config.specs.Fault as config
use Rattle.daa_io.specs.Faults.{HasRisen}
use Rattle.daa_report.specs.Lines.{Text, numbers_line}
use Rattle.daa_report.specs.Says.{AppendsFront}
use Rattle.daa_replay.specs.declared.opening.Unready.{Unready}
use Rattle.daa_replay.specs.declared.opening.Unready.TheVariants as unready
use Rattle.daa_replay.specs.declared.status.Status.TheVariants as status
use Rattle.daa_replay.specs.Opening.{usage_line}
use Rattle.daa_ahead.specs.Bytes.{StreamState}

-- the number that the process ends with
abbrev pub code_of : Status → ℕ
code_of Accepted = 0
code_of Refused = 1
code_of NotTaken = 2
code_of BadConfiguration = 3
code_of SourceFault = 4
code_of SinkFault = 5
code_of NoMemory = 6
code_of ShelfFault = 7
code_of Limit = 8
code_of StatesLong = 9

-- the sink took exactly this text, and no call of it failed
pub record Takes (old new : StreamState) (text : List ℕ) : Type 0 where
  pub taken : Appends old.bytes new.bytes text
  pub calm : new.faults ≡ old.faults

-- the line was not written whole, since the sink failed
pub record BreaksLine (old new : StreamState) (text : Text) : Type 0 where
  pub risen : HasRisen old.faults new.faults
  pub later : old.faults ≤ new.faults
  pub front : AppendsFront old.bytes new.bytes text

-- the line was written, with this status, or the sink failed within it
abbrev pub WritesLine : Status → StreamState → StreamState → Text → Status → Type 0
WritesLine said old new text result =
    ((result ≡ said) × Takes old new text)
    ⊎ ((result ≡ status.SinkFault) × BreaksLine old new text)

-- the line that is written if the states are too long
abbrev pub long_line : Text
long_line = codes "states long\n"

-- the code of the configuration was written; where there is none, there was no memory
abbrev pub WritesCode : Option ℕ → StreamState → StreamState → Status → Type 0
WritesCode None old new result = (result ≡ status.NoMemory) × (new ≡ old)
WritesCode (Some code) old new result =
    WritesLine status.BadConfiguration old new (numbers_line (codes "config") (code ∷ [])) result

-- what is written where a run could not be made ready, and its status
abbrev pub WritesReason : Unready → StreamState → StreamState → Status → Type 0
WritesReason unready.NotTaken old new result = WritesLine status.NotTaken old new usage_line result
WritesReason (unready.Refused fault) old new result =
    WritesCode (config.code_of fault) old new result
WritesReason unready.StatesLong old new result =
    WritesLine status.StatesLong old new long_line result
WritesReason unready.ShelfFault old new result = (result ≡ status.ShelfFault) × (new ≡ old)
WritesReason unready.NoMemory old new result = WritesCode None old new result
