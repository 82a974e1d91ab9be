use Rattle.std.proofs.Common.{◌≡◌, drop}
use Rattle.toml.specs.View.{items_view}
use Rattle.daa_config.specs.Rows.{list_of}
use Rattle.daa_config.specs.Inside.Rows.{any_item, differs_by}
use Rattle.daa_config.proofs.keys.any_differs.Given as goal

-- what is left of the items decides
abbrev pub invariant-loop-value : goal.invariant-loop-value
invariant-loop-value l =
    any_item (differs_by l.difference) (list_of (items_view (drop l.value-index l.items))) ≡ any_item (differs_by l.difference) (list_of (items_view l.items))
