-- What the code's rows stand for, and what it finds at keys.
use Rattle.std.specs.Prelude.{ℕ, ℤ, pos, Bool, true, ◌&&◌, int_le, List, is_some, Option, Some, None, option_and_then}
use Rattle.std.specs.List.{list_any, list_all, filter_map}
use Rattle.std.specs.Option.{option_map_or}
use Rattle.toml.specs.Data.{Data, Items, Members, no_members, get_member, as_integer, as_table, as_array}
use Rattle.daa_config.specs.declared.keys.Difference.{Difference}
use Rattle.daa_config.specs.declared.keys.Difference.TheVariants.{UnknownKey, MissingKey, NotNumber}
use Rattle.daa_config.specs.declared.numbers.Grid.{Grid}
use Rattle.daa_config.specs.declared.numbers.LevelNumbers.{LevelNumbers}
use Rattle.daa_config.specs.declared.numbers.RecoveryNumbers.{RecoveryNumbers}
use Rattle.daa_config.specs.declared.rows.Entry.{Entry}
use Rattle.daa_config.specs.declared.rows.Entry.TheVariants.{Number, Table, Tables}
use Rattle.daa_config.specs.declared.rows.Row.{Row as CodeRow}
use Rattle.daa_config.specs.Rows.{Row, are_tables, level_rows, recovery_rows, has_other_key, lacks_key, holds_other}
use Rattle.daa_config.specs.Document.{number_in, grid_by, level_by}

-- what may stand at a place
abbrev pub holds_by : Entry → Data → Bool
holds_by (Number least greatest here) = λ d. is_some (as_integer d)
holds_by Table = λ d. is_some (as_table d)
holds_by Tables = are_tables

-- the number at a place is in its range
abbrev pub fits_by : Entry → Bool
fits_by (Number least greatest here) = int_le least here && int_le here greatest
fits_by Table = true
fits_by Tables = true

-- a row, as the code has it
abbrev pub row_by : CodeRow → Row
row_by row = record { key = row.key.now; needed = row.needed; holds = holds_by row.place; fits = fits_by row.place }

-- how a table differs from its rows
abbrev pub differs_by : Difference → List Row → Members → Bool
differs_by UnknownKey = has_other_key
differs_by MissingKey = lacks_key
differs_by NotNumber = holds_other

-- the table at a key
abbrev pub table_at : Members → List ℕ → Option Members
table_at ms key = option_and_then as_table (get_member key ms)

-- the list at a key
abbrev pub list_at : Members → List ℕ → Option Items
list_at ms key = option_and_then as_array (get_member key ms)

-- the whole number at a key, 0 where there is none
abbrev pub number_at : Members → List ℕ → ℤ
number_at ms key = option_map_or (λ z. z) (option_and_then as_integer (get_member key ms)) (pos 0)

-- the numbers of the kind whose table stands at a key
abbrev pub grid_at : Members → List ℕ → Grid
grid_at ms key = grid_by (number_in (option_map_or (λ t. t) (table_at ms key) no_members))

-- a table among the items differs from the rows of a level
abbrev pub any_item : (List Row → Members → Bool) → List Data → Bool
any_item differs ds = list_any (λ t. differs (level_rows (level_by (number_in t))) t) (filter_map as_table ds)

-- the numbers of the level are in their ranges
abbrev pub level_fits : LevelNumbers → Bool
level_fits l = list_all (λ row. row.fits) (level_rows l)

-- the numbers of the recovery are in their ranges, where there are any
abbrev pub recovery_fits : Option RecoveryNumbers → Bool
recovery_fits None = true
recovery_fits (Some r) = list_all (λ row. row.fits) (recovery_rows r)
