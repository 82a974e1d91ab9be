-- The options of single subcommands, and a subcommand by itself.
use Prim.Native.String.{String}
use Rattle.std.specs.Prelude.{false, List, [], ◌∷◌, codes}
use Rattle.clap.specs.Simple.{App}
use Rattle.clap.specs.Walk.{Rule}
use Rattle.daa_words.specs.Command.{number_option, option, subcommand}

-- `--ahead N`
abbrev pub ahead : Rule
ahead = record (number_option (codes "ahead") 0 1024) { required = false; defaults = codes "0" ∷ [] }

-- `--seed N`
abbrev pub seed : Rule
seed = number_option (codes "seed") 0 4294967295

-- `--moments M`
abbrev pub moments : Rule
moments = number_option (codes "moments") 1 10000

-- `--states FILE`
abbrev pub states : Rule
states = option (codes "states")

-- a subcommand that is given no subcommand of its own
abbrev pub leaf : String → List Rule → App
leaf name options = record { top = subcommand name options; subs = [] }
