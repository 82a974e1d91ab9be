-- The command line that is taken, in clap's own words.
use Prim.Native.String.{String}
use Rattle.std.specs.Prelude.{ℕ, true, false, pos, List, Some, [], ◌∷◌, codes}
use Rattle.clap.specs.Simple.{App, Shape, new_rule, new_shape}
use Rattle.clap.specs.Walk.{Rule, Text}
use Rattle.clap.specs.declared.builder.action.ArgAction.TheVariants.{Set}
use Rattle.clap.specs.declared.builder.value_parser.ValueParser.TheVariants.{Signed}

-- an option that must be given, with one value, which may be any text
abbrev pub option : Text → Rule
option name = record (new_rule name) { long = Some name; action = Some Set; required = true }

-- an option that must be given, with one value, a whole number from `least` to `most`
abbrev pub number_option : Text → ℕ → ℕ → Rule
number_option name least most =
    record (option name) { parser = Some (Signed (pos least) (pos most)) }

-- `--config FILE`, the name of the configuration
abbrev pub config : Rule
config = option (codes "config")

-- `--workers N`, how many workers share the moments, or the work of one: 4 if it is not given
abbrev pub workers : Rule
workers = record (number_option (codes "workers") 1 16) { required = false; defaults = codes "4" ∷ [] }

-- a subcommand with these options
abbrev pub subcommand : String → List Rule → Shape
subcommand name options = record (new_shape (codes name)) { rules = options }

-- the command line: `daidalus` and one of three subcommands, and nothing else but clap's help;
-- `replay --config FILE [--workers N] [--ahead N]`, where `--ahead` is how many pieces may be read ahead, 0 if it is not given;
-- `exercise --config FILE --seed N --moments M [--workers N]`, where M moments are made from the seed;
-- `judge --config FILE --states FILE [--workers N]`, where `--states` is the name of the states whose report is compared
unfoldable pub daidalus : App
daidalus = record {
  top = record (new_shape (codes "daidalus")) { is_leaf = false; subcommand_required = true };
  subs =
      subcommand "replay" (config ∷ workers ∷ record (number_option (codes "ahead") 0 1024) { required = false; defaults = codes "0" ∷ [] } ∷ [])
      ∷ subcommand "exercise" (config ∷ number_option (codes "seed") 0 4294967295 ∷ number_option (codes "moments") 1 10000 ∷ workers ∷ [])
      ∷ subcommand "judge" (config ∷ option (codes "states") ∷ workers ∷ []) ∷ [];
}
