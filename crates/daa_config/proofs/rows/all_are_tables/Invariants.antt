use Rattle.std.proofs.Common.{◌≡◌, drop}
use Rattle.std.specs.List.{list_all}
use Rattle.std.specs.Prelude.{is_some}
use Rattle.toml.specs.Data.{as_table}
use Rattle.toml.specs.View.{items_view}
use Rattle.daa_config.specs.Rows.{list_of}
use Rattle.daa_config.proofs.rows.all_are_tables.Given as goal

-- what is left of the items decides
abbrev pub invariant-loop-item : goal.invariant-loop-item
invariant-loop-item l =
    list_all (λ one. is_some (as_table one)) (list_of (items_view (drop l.item-index l.items)))
    ≡ list_all (λ one. is_some (as_table one)) (list_of (items_view l.items))
