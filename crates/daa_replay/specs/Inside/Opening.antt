-- What is known when a run was made ready, or why it was not.
use Rattle.std.specs.Prelude.{ℕ, ◌≡◌, ◌<◌, ◌≤◌, length, List, Option, None, Some, Result, Ok, Err, IfSome, IsSomeAnd}
use Rattle.std.specs.Option.{option_map_or}
use Rattle.daa_engine.specs.EngineState.{EngineState}
use Rattle.daa_io.specs.Shelf.{Texts, longest_text}
use Rattle.daa_io.specs.declared.shelf.FetchFault as fetch_fault
use Rattle.daa_io.specs.declared.shelf.FetchFault.TheVariants as fetch
use Rattle.daa_config.specs.declared.fault.ConfigFault.{ConfigFault}
use Rattle.daa_config.specs.ConfigOf.{config_of}
use Rattle.daa_config.specs.Fault.{code_of}
use Rattle.daa_config.specs.Settings.{Settings}
use Rattle.daa_report.specs.Lines.{Text}
use Rattle.daa_words.specs.Order.{Asked, order_of}
use Rattle.daa_words.specs.Task.{Task, Replay, Exercise, Judge}
use Rattle.daa_replay.specs.declared.opening.Ready.{Ready}
use Rattle.daa_replay.specs.declared.opening.Unready.{Unready}
use Rattle.daa_replay.specs.declared.opening.Unready.TheVariants.{NotTaken, Refused, StatesLong, ShelfFault, NoMemory}
use Rattle.daa_replay.specs.declared.opening.Work.{Work}
use Rattle.daa_replay.specs.declared.opening.Work.TheVariants as work
use Rattle.daa_replay.specs.Opening.{IsHeld, Opens, OpensLong, IsRefused}

-- a fault that has a code refuses the configuration; the one without says that memory ran out
abbrev pub unready_of : ConfigFault → Unready
unready_of fault = option_map_or (λ code. Refused fault) (code_of fault) NoMemory

-- why there is no text: the shelf failed, or there was no memory; one that is too long makes the
-- run `long`
abbrev pub cause_of_fetch : Unready → fetch_fault.FetchFault → Unready
cause_of_fetch long fetch.TooLong = long
cause_of_fetch long fetch.Failed = ShelfFault
cause_of_fetch long fetch.NoMemory = NoMemory

-- the text is the configuration, or is refused for the fault
abbrev pub ReadsAs : Text → Result Settings Unready → Type 0
ReadsAs text (Ok settings) = config_of text ≡ Ok settings
ReadsAs text (Err NotTaken) = ⊥
ReadsAs text (Err (Refused fault)) = (code : ℕ) × (config_of text ≡ Err fault)
    × (code_of fault ≡ Some code)
ReadsAs text (Err StatesLong) = ⊥
ReadsAs text (Err ShelfFault) = ⊥
ReadsAs text (Err NoMemory) = Unit {0}

-- the same of the text that the shelf holds under the name
abbrev pub FetchesAs : Option Texts → Text → Result Settings Unready → Type 0
FetchesAs texts name (Ok settings) = (text : Text) × IsHeld texts name text
    × ReadsAs text (Ok settings)
FetchesAs texts name (Err NotTaken) = ⊥
FetchesAs texts name (Err (Refused fault)) = (text : Text) × IsHeld texts name text
    × ReadsAs text (Err (Refused fault))
FetchesAs texts name (Err StatesLong) = ⊥
FetchesAs texts name (Err ShelfFault) = Unit {0}
FetchesAs texts name (Err NoMemory) = Unit {0}

-- the work is what the task asks for; the states are those that the shelf holds under the name
abbrev pub IsWork : Option Texts → Task → Work → Type 0
IsWork texts task (work.Replay ahead) = task ≡ Replay ahead
IsWork texts task (work.Exercise seed moments) = task ≡ Exercise seed moments
IsWork texts task (work.Judge states sheet) =
    (name : Text) × (task ≡ Judge name) × IsHeld texts name states.items
    × (length states.items ≤ longest_text)

-- if the shelf shows its texts, it holds a text under the name that is too long to be fetched
abbrev pub IsHeldLong : Option Texts → Text → Type 0
IsHeldLong texts name =
    IfSome texts (λ held. IsSomeAnd (held name) (λ text. longest_text < length text))

-- the work of a task was made ready, or why it was not
abbrev pub PreparesAs : Option Texts → Task → Result Work Unready → Type 0
PreparesAs texts task (Ok ready) = IsWork texts task ready
PreparesAs texts task (Err NotTaken) = ⊥
PreparesAs texts task (Err (Refused fault)) = ⊥
PreparesAs texts task (Err StatesLong) = (name : Text) × (task ≡ Judge name) × IsHeldLong texts name
PreparesAs texts task (Err ShelfFault) = Unit {0}
PreparesAs texts task (Err NoMemory) = Unit {0}

-- the same of the words and the shelf
abbrev pub OpensAs : List Text → Option Texts → Result Ready Unready → Type 0
OpensAs words texts (Ok ready) = (task : Task) × Opens words texts task ready.engine.settings
    × IsWork texts task ready.work
OpensAs words texts (Err NotTaken) = order_of words ≡ None
OpensAs words texts (Err (Refused fault)) = (code : ℕ) × IsRefused words texts code
    × (code_of fault ≡ Some code)
OpensAs words texts (Err StatesLong) = OpensLong words texts
OpensAs words texts (Err ShelfFault) = (asked : Asked) × (order_of words ≡ Some asked)
OpensAs words texts (Err NoMemory) = Unit {0}

-- the configuration that is ready and the task's work, as the shelf gives them for what is asked
abbrev pub MakesReady : Option Texts → Asked → Result Ready Unready → Type 0
MakesReady texts asked (Ok ready) = FetchesAs texts asked.config (Ok ready.engine.settings)
    × IsWork texts asked.task ready.work
MakesReady texts asked (Err NotTaken) = ⊥
MakesReady texts asked (Err (Refused fault)) = FetchesAs texts asked.config (Err (Refused fault))
MakesReady texts asked (Err StatesLong) =
    (settings : Settings) × FetchesAs texts asked.config (Ok settings)
    × PreparesAs texts asked.task (Err StatesLong)
MakesReady texts asked (Err ShelfFault) = Unit {0}
MakesReady texts asked (Err NoMemory) = Unit {0}

-- the configuration of an engine, where there is one
abbrev pub settings_in : Result EngineState Unready → Result Settings Unready
settings_in (Ok engine) = Ok engine.settings
settings_in (Err why) = Err why

-- the numbers of the work are in their ranges
abbrev pub WorkIsInRange : Work → Type 0
WorkIsInRange (work.Replay ahead) = ahead ≤ 1024
WorkIsInRange (work.Exercise seed moments) = (1 ≤ moments) × (moments ≤ 10000)
WorkIsInRange (work.Judge states sheet) = length states.items ≤ longest_text
