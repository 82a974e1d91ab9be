-- The tables of a configuration: a row for each key says what is asked of it by itself.
use Prim.Native.String.{String}
use Rattle.std.specs.Prelude.{ℕ, ℤ, pos, ◌-ℤ◌, int_le, Bool, true, false, not, ◌&&◌, ◌||◌, List, [], ◌∷◌, is_some, is_none, codes}
use Rattle.std.specs.List.{list_any, list_all}
use Rattle.std.specs.Str.{bytes_eq}
use Rattle.std.specs.Option.{option_map_or}
use Rattle.toml.specs.Data.{Data, Members, no_members, member, get_member, as_integer, as_table, as_array, Items, no_items, item}
use Rattle.daa_config.specs.declared.limits.Bounds.{Bounds}
use Rattle.daa_config.specs.declared.numbers.Grid.{Grid}
use Rattle.daa_config.specs.declared.numbers.Numbers.{Numbers}
use Rattle.daa_config.specs.declared.numbers.LevelNumbers.{LevelNumbers}
use Rattle.daa_config.specs.declared.numbers.RecoveryNumbers.{RecoveryNumbers}

-- a key of a table: whether it must be there, what may stand at it, and whether its number is in its range
pub record Row : Type 0 where
  pub key : List ℕ
  pub needed : Bool
  pub holds : Data → Bool
  pub fits : Bool

-- a whole number that must be there and be from low to high; it is z
abbrev pub number : String → ℤ → ℤ → ℤ → Row
number key low high z = record { key = codes key; needed = true; holds = λ d. is_some (as_integer d); fits = int_le low z && int_le z high }

-- a whole number that may be left out, then 0, and be from 0 to high; it is z
abbrev pub optional : String → ℤ → ℤ → Row
optional key high z = record (number key (pos 0) high z) { needed = false }

-- a table that must be there, which has rows of its own
abbrev pub table : String → Row
table key = record { key = codes key; needed = true; holds = λ d. is_some (as_table d); fits = true }

-- the items of a list
abbrev pub list_of : Items → List Data
list_of no_items = []
list_of (item d ds) = d ∷ list_of ds

-- it is a list of tables
abbrev pub are_tables : Data → Bool
are_tables d = option_map_or (λ ds. list_all (λ one. is_some (as_table one)) (list_of ds)) (as_array d) false

-- ---- the rows

-- the rows of the document; `last_times` is 1 where last times are asked for
abbrev pub document_rows : Numbers → ℤ → List Row
document_rows n last_times =
    number "resolve" (pos 1) (pos 4) n.resolve
    ∷ number "turn_rate" (pos 1) (pos 30) n.turn_rate
    ∷ number "track_step" (pos 1) (pos 90) n.track_step
    ∷ table "gs"
    ∷ table "vs"
    ∷ table "alt"
    ∷ record (table "level") { holds = are_tables }
    ∷ record (table "recovery") { needed = false }
    ∷ optional "last_times" (pos 1) last_times ∷ []

-- the rows of the table of a kind whose values are within these bounds: `max` is from `min` on, and a step is at most the way between the bounds
abbrev pub grid_rows : Bounds → Grid → List Row
grid_rows values g =
    number "min" values.low values.high g.min
    ∷ number "max" g.min values.high g.max
    ∷ number "step" (pos 1) (values.high -ℤ values.low) g.step
    ∷ number "rate" (pos 1) (pos 10000) g.rate ∷ []

-- the rows of a level's table: 0.001 NM, ft, and seconds; `tcpa` is 1 where the time to the closest approach counts, `tau` where tau does,
-- `tep` where the time until the distance is `dthr` does
abbrev pub level_rows : LevelNumbers → List Row
level_rows l =
    number "dthr" (pos 1) (pos 10000) l.dthr
    ∷ number "zthr" (pos 0) (pos 10000) l.zthr
    ∷ number "tthr" (pos 0) (pos 120) l.tthr
    ∷ number "tcoa" (pos 0) (pos 120) l.tcoa
    ∷ number "lookahead" (pos 1) (pos 180) l.lookahead
    ∷ number "alert" (pos 1) (pos 180) l.alert
    ∷ optional "tcpa" (pos 1) l.tcpa
    ∷ optional "tau" (pos 1) l.tau
    ∷ optional "tep" (pos 1) l.tep ∷ []

-- the rows of the table of a recovery's cylinder: 0.001 NM and ft; `nearest` is 1 where the value nearest to the present one is named
abbrev pub recovery_rows : RecoveryNumbers → List Row
recovery_rows r =
    number "hdist" (pos 1) (pos 10000) r.hdist
    ∷ number "vdist" (pos 0) (pos 10000) r.vdist
    ∷ optional "nearest" (pos 1) r.nearest ∷ []

-- ---- what differs from the rows

-- the table has a key that no row has
abbrev pub has_other_key : List Row → Members → Bool
has_other_key rows no_members = false
has_other_key rows (member key d ms) = not (list_any (λ row. bytes_eq row.key key) rows) || has_other_key rows ms

-- a key that the table must have is missing
abbrev pub lacks_key : List Row → Members → Bool
lacks_key rows ms = list_any (λ row. row.needed && is_none (get_member row.key ms)) rows

-- some key holds something that may not stand there
abbrev pub holds_other : List Row → Members → Bool
holds_other rows ms = list_any (λ row. option_map_or (λ d. not (row.holds d)) (get_member row.key ms) false) rows
