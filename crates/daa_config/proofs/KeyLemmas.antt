-- Tests over the keys of a table.
use Rattle.std.proofs.Common.{◌≡◌, ℕ, Bool, true, not, ◌||◌, List, [], ◌∷◌, map, String, Global, string_bytes, refl, ap, arith, get_or, zero, suc, ◌<◌, length}
use Rattle.std.specs.List.{list_any}
use Rattle.std.proofs.Math.Bool.{or-true}
use Rattle.std.specs.Map.{keys_of}
use Rattle.std.specs.Str.{bytes_eq}
use Rattle.toml.specs.declared.value.Value.{Value}
use Rattle.toml.specs.View.{members_view}
use Rattle.daa_config.specs.Rows.{Row, has_other_key}

-- a row has the key
abbrev pub is_listed : List Row → List ℕ → Bool
is_listed rows key = list_any (λ row. bytes_eq row.key key) rows

-- the keys of the entries that no row has
pub other_keys : (rows : List Row) (es : List (String Global × Value))
    → list_any (λ k. not (is_listed rows (string_bytes k))) (keys_of es) ≡ has_other_key rows (members_view es)
other_keys rows [] = refl
other_keys rows (e ∷ es) = ap (λ b. not (is_listed rows (string_bytes e.0)) || b) (other_keys rows es)

-- an element that passes is found
pub any_found : {X Y : Type 0} (p : Y → Bool) (f : X → Y) (xs : List X) (i : ℕ) (d : X) → i < length xs → p (f (get_or xs i d)) ≡ true → true ≡ list_any p (map f xs)
any_found p f [] i d lt h = absurd (omega arith)
any_found p f (x ∷ xs) zero d lt h = rw h
any_found p f (x ∷ xs) (suc i) d lt h = rw (← any_found p f xs i d (omega arith) h) (rw or-true refl)
