-- The tables of a document, and the numbers that stand in them.
use Prim.Native.String.{String}
use Rattle.std.specs.Prelude.{ℤ, pos, Bool, false, ◌||◌, List, [], Option, option_and_then, codes}
use Rattle.std.specs.List.{list_any, filter_map}
use Rattle.std.specs.Option.{option_map_or}
use Rattle.toml.specs.Data.{Members, no_members, get_member, as_integer, as_table, as_array}
use Rattle.daa_config.specs.declared.kind.Kind.TheVariants.{GroundSpeed, VerticalSpeed, Altitude}
use Rattle.daa_config.specs.declared.numbers.Grid.{Grid}
use Rattle.daa_config.specs.declared.numbers.Numbers.{Numbers}
use Rattle.daa_config.specs.declared.numbers.LevelNumbers.{LevelNumbers}
use Rattle.daa_config.specs.declared.numbers.RecoveryNumbers.{RecoveryNumbers}
use Rattle.daa_config.specs.Rows.{Row, list_of, document_rows, grid_rows, level_rows, recovery_rows}
use Rattle.daa_config.specs.Settings.{value_bounds}

-- the table at a key
abbrev pub table_in : Members → String → Option Members
table_in ms key = option_and_then as_table (get_member (codes key) ms)

-- the tables in the list of levels
abbrev pub levels_in : Members → List Members
levels_in ms = option_map_or (λ ds. filter_map as_table (list_of ds)) (option_and_then as_array (get_member (codes "level") ms)) []

-- ---- the numbers, each from its key

-- the whole number at a key, or 0 if there is none. The numbers count only where no table differs from its rows: then only
-- keys that may be left out are missing
abbrev pub number_in : Members → String → ℤ
number_in ms key = option_map_or (λ z. z) (option_and_then as_integer (get_member (codes key) ms)) (pos 0)

-- the numbers of a kind's table
abbrev pub grid_by : (String → ℤ) → Grid
grid_by at = record { min = at "min"; max = at "max"; step = at "step"; rate = at "rate" }

-- the numbers of the kind whose table stands at a key
abbrev pub grid_in : Members → String → Grid
grid_in ms key = grid_by (number_in (option_map_or (λ t. t) (table_in ms key) no_members))

-- the numbers of a level's table
abbrev pub level_by : (String → ℤ) → LevelNumbers
level_by at = record { dthr = at "dthr"; zthr = at "zthr"; tthr = at "tthr"; tcoa = at "tcoa"; lookahead = at "lookahead"; alert = at "alert"; tcpa = at "tcpa"; tau = at "tau"; tep = at "tep" }

-- the numbers of the recovery's table
abbrev pub recovery_by : (String → ℤ) → RecoveryNumbers
recovery_by at = record { hdist = at "hdist"; vdist = at "vdist"; nearest = at "nearest" }

-- the numbers of the document, without its levels, its recovery and `last_times`
abbrev pub numbers_by : (String → ℤ) → (String → Grid) → Numbers
numbers_by at grid = record { resolve = at "resolve"; turn_rate = at "turn_rate"; track_step = at "track_step"; gs = grid "gs"; vs = grid "vs"; alt = grid "alt" }

-- ---- all tables

-- the document, or one of its tables, differs from its rows; their numbers play no part in it
unfoldable pub any_table : (List Row → Members → Bool) → Members → Bool
any_table differs ms =
    differs (document_rows (numbers_by (number_in ms) (grid_in ms)) (number_in ms "last_times")) ms
    || (option_map_or (λ t. differs (grid_rows (value_bounds GroundSpeed) (grid_by (number_in t))) t) (table_in ms "gs") false
    || (option_map_or (λ t. differs (grid_rows (value_bounds VerticalSpeed) (grid_by (number_in t))) t) (table_in ms "vs") false
    || (option_map_or (λ t. differs (grid_rows (value_bounds Altitude) (grid_by (number_in t))) t) (table_in ms "alt") false
    || (option_map_or (λ t. differs (recovery_rows (recovery_by (number_in t))) t) (table_in ms "recovery") false
    || list_any (λ t. differs (level_rows (level_by (number_in t))) t) (levels_in ms)))))
