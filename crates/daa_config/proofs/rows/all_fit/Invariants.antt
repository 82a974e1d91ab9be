use Rattle.std.proofs.Common.{◌≡◌, drop, map}
use Rattle.std.specs.List.{list_all}
use Rattle.daa_config.specs.Inside.Rows.{row_by}
use Rattle.daa_config.proofs.rows.all_fit.Given as goal

-- what is left of the rows decides
abbrev pub invariant-loop-row : goal.invariant-loop-row
invariant-loop-row l = list_all (λ row. row.fits) (map row_by (drop l.row-index l.rows)) ≡ list_all (λ row. row.fits) (map row_by l.rows)
