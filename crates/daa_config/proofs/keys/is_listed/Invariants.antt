use Rattle.std.proofs.Common.{◌≡◌, false, map, take}
use Rattle.daa_config.specs.Inside.Rows.{row_by}
use Rattle.daa_config.proofs.KeyLemmas.{is_listed}
use Rattle.daa_config.proofs.keys.is_listed.Given as goal

-- none of the rows so far has the key
abbrev pub invariant-loop-row : goal.invariant-loop-row
invariant-loop-row l = is_listed (map row_by (take l.row-index l.rows)) l.key ≡ false
