-- The views of a table.
use Rattle.std.proofs.Common.{◌≡◌, ℕ, zero, suc, true, List, [], ◌∷◌, sym, ap, ◌∙◌, subst}
use Rattle.std.proofs.lemmas.Bool.{true≢false}
use mathlib.Core.Option.{some, some-injective, some-ne-none}
use lib.ListN.{get_elem?}
use Rattle.daa_pool.specs.declared.view.View.{View}
use Rattle.daa_pool.specs.Inside.View.{blank}
use Rattle.daa_pool.specs.Inside.Rule.{Pools, IsBlank}

-- before the first seat is told, there is no live view
pub not_blank : (workers units : ℕ) (s : Pools) (id : ℕ) (v : View) → IsBlank workers units s → get_elem? s.views id ≡ some v → v.live ≡ true → ⊥
not_blank workers units s id v b at alive = only id (subst (λ (vs : List View). get_elem? vs id ≡ some v) b.views at)
  where
    only : (i : ℕ) → get_elem? (blank ∷ []) i ≡ some v → ⊥
    only zero e = true≢false (sym alive ∙ ap (λ (x : View). x.live) (sym (some-injective blank v e)))
    only (suc i) e = some-ne-none v (sym e)
