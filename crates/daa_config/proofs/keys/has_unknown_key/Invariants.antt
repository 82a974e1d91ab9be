use Rattle.std.proofs.Common.{◌≡◌, not, map, string_bytes}
use Rattle.std.specs.List.{list_any}
use Rattle.toml.specs.View.{table_view}
use Rattle.daa_config.specs.Rows.{has_other_key}
use Rattle.daa_config.specs.Inside.Rows.{row_by}
use Rattle.daa_config.proofs.KeyLemmas.{is_listed}
use Rattle.daa_config.proofs.keys.has_unknown_key.Given as goal

-- what is left of the keys decides
abbrev pub invariant-loop-key : goal.invariant-loop-key
invariant-loop-key l =
    list_any (λ k. not (is_listed (map row_by l.rows) (string_bytes k))) l.key-iterator ≡ has_other_key (map row_by l.rows) (table_view l.table)
