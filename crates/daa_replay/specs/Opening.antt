-- What the command words and the shelf give a run before it reads.
use Rattle.std.specs.Prelude.{ℕ, ◌≡◌, ◌<◌, ◌≤◌, List, Option, Some, None, Ok, Err, IfSome, IsSomeAnd, codes, length}
use Rattle.daa_io.specs.Shelf.{Texts, longest_text}
use Rattle.daa_config.specs.declared.fault.ConfigFault.{ConfigFault}
use Rattle.daa_config.specs.ConfigOf.{config_of}
use Rattle.daa_config.specs.Fault.{code_of}
use Rattle.daa_config.specs.Settings.{Settings}
use Rattle.daa_report.specs.Lines.{Text}
use Rattle.daa_words.specs.Order.{Asked, order_of}
use Rattle.daa_words.specs.Task.{Task, Judge}

-- the line that is written if the command words are not taken
abbrev pub usage_line : Text
usage_line = codes "usage: daidalus replay --config FILE [--workers N] [--ahead N] | exercise --config FILE --seed N --moments M [--workers N] | judge --config FILE --states FILE [--workers N]\n"

-- if the shelf shows its texts, it holds this text under the name
abbrev pub IsHeld : Option Texts → Text → Text → Type 0
IsHeld texts name text = IfSome texts (λ held. held name ≡ Some text)

-- the words are taken and ask for the task, and the text that the shelf holds under the name that
-- they give is this configuration
pub record Opens (words : List Text) (texts : Option Texts) (task : Task)
    (settings : Settings) : Type 0 where
  pub asked : Asked
  pub taken : order_of words ≡ Some asked
  pub wanted : asked.task ≡ task
  pub text : Text
  pub held : IsHeld texts asked.config text
  pub accepted : config_of text ≡ Ok settings

-- the words ask for a comparison with the report of the states under a name, which the shelf holds
-- there
pub record OpensStates (words : List Text) (texts : Option Texts) (settings : Settings)
    (states : Text) : Type 0 where
  pub name : Text
  pub opens : Opens words texts (Judge name) settings
  pub held : IsHeld texts name states
  pub short : length states ≤ longest_text

-- the same with states that are too long: if the shelf shows its texts, it holds a text under the
-- name that is too long to be fetched
pub record OpensLong (words : List Text) (texts : Option Texts) : Type 0 where
  pub name : Text
  pub settings : Settings
  pub opens : Opens words texts (Judge name) settings
  pub long : IfSome texts (λ held. IsSomeAnd (held name) (λ text. longest_text < length text))

-- the words are taken, and the text that the shelf holds under the name that they give is refused
-- with this code
pub record IsRefused (words : List Text) (texts : Option Texts) (code : ℕ) : Type 0 where
  pub asked : Asked
  pub taken : order_of words ≡ Some asked
  pub text : Text
  pub held : IsHeld texts asked.config text
  pub fault : ConfigFault
  pub refused : config_of text ≡ Err fault
  pub numbered : code_of fault ≡ Some code

-- the words are taken; the shelf shows its texts, and holds none under the name that the words
-- give
pub record HoldsNone (words : List Text) (texts : Option Texts) : Type 0 where
  pub asked : Asked
  pub taken : order_of words ≡ Some asked
  pub held : Texts
  pub told : texts ≡ Some held
  pub missing : held asked.config ≡ None

-- the words ask for a comparison with the report of states, the configuration is accepted, and the
-- shelf shows its texts, and holds no states under the name that the words give
pub record HoldsNoStates (words : List Text) (texts : Option Texts) : Type 0 where
  pub name : Text
  pub settings : Settings
  pub opens : Opens words texts (Judge name) settings
  pub held : Texts
  pub told : texts ≡ Some held
  pub missing : held name ≡ None

-- if the shelf shows its texts, a command line selects at most one task and one configuration
abbrev pub ConfigurationsAreUnique : Type 0
ConfigurationsAreUnique = (words : List Text) (held : Texts) (task other_task : Task)
    (settings other : Settings)
    → Opens words (Some held) task settings → Opens words (Some held) other_task other
    → (task ≡ other_task) × (settings ≡ other)
