use Rattle.std.proofs.Common.{◌∙◌, ap, not, map, List, string_bytes, String, Global}
use Rattle.std.specs.List.{list_any}
use Rattle.daa_config.specs.Inside.Rows.{row_by}
use Rattle.daa_config.proofs.KeyLemmas.{is_listed, other_keys}
use Rattle.daa_config.proofs.keys.has_unknown_key.Goals as goal

pub loop-key-init : goal.loop-key-init
loop-key-init c =
    ap (λ (ks : List (String Global)). list_any (λ k. not (is_listed (map row_by c.args.rows.now) (string_bytes k))) ks)
    (c.into_iter-key-iterator.ensures.into_iter_gives ∙ c.keys-key-items.ensures.rest)
    ∙ other_keys (map row_by c.args.rows.now) c.args.table.now.entries
