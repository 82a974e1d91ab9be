-- Why a configuration is refused.
use Rattle.std.specs.Prelude.{ℕ, Option, Some, None}
use Rattle.daa_config.specs.declared.fault.ConfigFault.{ConfigFault}
use Rattle.daa_config.specs.declared.fault.ConfigFault.TheVariants.{TooLong, NotToml, UnknownKey, MissingKey, NotNumber, OutOfRange, Levels, TooMany, NoMemory}

-- the number of a fault; `NoMemory`, which says nothing of the text, has none
abbrev pub code_of : ConfigFault → Option ℕ
code_of TooLong = Some 1
code_of NotToml = Some 2
code_of UnknownKey = Some 3
code_of MissingKey = Some 4
code_of NotNumber = Some 5
code_of OutOfRange = Some 6
code_of Levels = Some 7
code_of TooMany = Some 8
code_of NoMemory = None
