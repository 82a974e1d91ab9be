use Rattle.std.proofs.Common.{◌≡◌, false, map, take}
use Rattle.toml.specs.View.{table_view}
use Rattle.daa_config.specs.Rows.{lacks_key}
use Rattle.daa_config.specs.Inside.Rows.{row_by}
use Rattle.daa_config.proofs.keys.lacks_needed_key.Given as goal

-- no key of the rows so far is missing
abbrev pub invariant-loop-row : goal.invariant-loop-row
invariant-loop-row l = lacks_key (map row_by (take l.row-index l.rows)) (table_view l.table) ≡ false
