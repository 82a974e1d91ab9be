-- The configuration that a text is, or the fault of least number that applies anywhere in it.
use Rattle.std.specs.Prelude.{ℕ, ℤ, pos, ◌%◌, ◌==◌, ◌&&◌, ◌||◌, not, List, [], ◌∷◌, ◌++◌, length, map, nat_abs, nat_lt, int_lt, Option, Result, Ok, Err, if◌then◌else◌, option_map}
use Rattle.std.specs.List.{list_all, list_any, flat_map}
use Rattle.std.specs.Option.{option_map_or}
use Rattle.std.specs.Str.{is_utf8}
use Rattle.toml.specs.Data.{Members}
use Rattle.toml.specs.Parse.{parse_document}
use Rattle.daa_config.specs.declared.fault.ConfigFault.{ConfigFault}
use Rattle.daa_config.specs.declared.fault.ConfigFault.TheVariants.{TooLong, NotToml, UnknownKey, MissingKey, NotNumber, OutOfRange, Levels, TooMany}
use Rattle.daa_config.specs.declared.kind.Kind.TheVariants.{GroundSpeed, VerticalSpeed, Altitude}
use Rattle.daa_config.specs.declared.numbers.Numbers.{Numbers}
use Rattle.daa_config.specs.declared.numbers.LevelNumbers.{LevelNumbers}
use Rattle.daa_config.specs.declared.numbers.RecoveryNumbers.{RecoveryNumbers}
use Rattle.daa_config.specs.Document.{table_in, levels_in, number_in, grid_in, numbers_by, recovery_by, level_by, any_table}
use Rattle.daa_config.specs.Level.{level_of, cylinder_of, asks_one, asks_nearest, is_set}
use Rattle.daa_config.specs.Limits.{full_turn}
use Rattle.daa_config.specs.Numbers.{count_of}
use Rattle.daa_config.specs.Rows.{Row, document_rows, grid_rows, level_rows, recovery_rows, has_other_key, lacks_key, holds_other}
use Rattle.daa_config.specs.Settings.{Settings, value_bounds}

-- the numbers of a document, as they are written
pub record Written : Type 0 where
  pub numbers : Numbers
  pub recovery : Option RecoveryNumbers
  pub last_times : ℤ
  pub levels : List LevelNumbers

-- all rows of these numbers, of each table
unfoldable pub rows_of : Written → List Row
rows_of w =
    document_rows w.numbers w.last_times
    ++ (grid_rows (value_bounds GroundSpeed) w.numbers.gs ++ (grid_rows (value_bounds VerticalSpeed) w.numbers.vs ++ (grid_rows (value_bounds Altitude) w.numbers.alt
    ++ (option_map_or recovery_rows w.recovery [] ++ flat_map level_rows w.levels))))

-- ---- the faults, in the order of their numbers

-- the configuration of these numbers, unless a number is out of its range, `track_step` divides no full turn, or a level asks for two models;
-- there is no level, there are more than 4, or `resolve` is above their number; or ground speed, vertical speed or altitude has more than 512 values
unfoldable pub settings_of : Written → Result Settings ConfigFault
settings_of w =
    if not (list_all (λ row. row.fits) (rows_of w) && (full_turn % nat_abs w.numbers.track_step == 0)) then Err OutOfRange
    else if not (list_all asks_one w.levels) then Err OutOfRange
    else if length w.levels == 0 || (nat_lt 4 (length w.levels) || int_lt (pos (length w.levels)) w.numbers.resolve) then Err Levels
    else if list_any (λ g. nat_lt 512 (count_of g)) (w.numbers.gs ∷ w.numbers.vs ∷ w.numbers.alt ∷ []) then Err TooMany
    else Ok (record { numbers = w.numbers; recovery = option_map cylinder_of w.recovery; nearest = asks_nearest w.recovery; last_times = is_set w.last_times; levels = map level_of w.levels })

-- the configuration of a document's numbers, unless one of its tables differs from its rows
unfoldable pub config_in : Members → Result Settings ConfigFault
config_in ms =
    if any_table has_other_key ms then Err UnknownKey
    else if any_table lacks_key ms then Err MissingKey
    else if any_table holds_other ms then Err NotNumber
    else settings_of (record {
      numbers = numbers_by (number_in ms) (grid_in ms);
      recovery = option_map (λ t. recovery_by (number_in t)) (table_in ms "recovery");
      last_times = number_in ms "last_times";
      levels = map (λ t. level_by (number_in t)) (levels_in ms);
    })

-- the configuration that the text is, of at most 65536 bytes and by the grammar of TOML, unless one of these faults applies; then the first one
unfoldable pub config_of : List ℕ → Result Settings ConfigFault
config_of text =
    if nat_lt 65536 (length text) then Err TooLong
    else if not (is_utf8 text) then Err NotToml
    else option_map_or config_in (parse_document text) (Err NotToml)
