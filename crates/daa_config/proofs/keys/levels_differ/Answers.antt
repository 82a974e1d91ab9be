use Rattle.std.proofs.Common.{◌∙◌, ap, List, [], Option}
use Rattle.std.specs.List.{list_any, filter_map}
use Rattle.std.specs.Option.{option_map_or}
use Rattle.toml.specs.Data.{Items, as_table}
use Rattle.toml.specs.View.{items_view}
use Rattle.toml.specs.declared.value.Value.{Value}
use Rattle.daa_config.specs.Document.{number_in, level_by}
use Rattle.daa_config.specs.Inside.Rows.{any_item, differs_by}
use Rattle.daa_config.specs.Rows.{list_of, level_rows}
use Rattle.daa_config.proofs.keys.levels_differ.Goals as goal

pub returns-in-Some : goal.returns-in-Some
returns-in-Some c =
    let d = differs_by c.args.difference in
    c.any_differs.ensures
    ∙ ap (λ (items : List Value). any_item d (list_of (items_view items))) c.as_slice.ensures.value
    ∙ ap (λ (o : Option Items). list_any (λ t. d (level_rows (level_by (number_in t))) t) (option_map_or (λ ds. filter_map as_table (list_of ds)) o []))
    c.in-Some.ensures
