use Rattle.std.proofs.Common.{◌≡◌, false, map, take}
use Rattle.toml.specs.View.{table_view}
use Rattle.daa_config.specs.Rows.{holds_other}
use Rattle.daa_config.specs.Inside.Rows.{row_by}
use Rattle.daa_config.proofs.keys.holds_other_value.Given as goal

-- nothing else stands at the keys of the rows so far
abbrev pub invariant-loop-row : goal.invariant-loop-row
invariant-loop-row l = holds_other (map row_by (take l.row-index l.rows)) (table_view l.table) ≡ false
