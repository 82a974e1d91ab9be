-- Lists of ranges, hands and marks, read at one worker after a change.
use Rattle.std.proofs.Common.{ℕ, ◌<◌, List, length, get_or, set, sym, subst, get_or-set_same, get_or-set_other}
use mathlib.Core.Logic.{dite}
use native.Mathlib.Decide.{ℕ_discrete}
use Rattle.daa_range.specs.Range.{RangeState}
use Rattle.daa_schedule.specs.CoreState.{no_units}

-- what holds of each worker holds of each after one worker's range and hand have changed
pub both_set : (P : ℕ → RangeState → RangeState → Type 0) (rs hs : List RangeState) (i : ℕ) (r h : RangeState) → i < length rs → i < length hs
    → P i r h → ((w : ℕ) → P w (get_or rs w no_units) (get_or hs w no_units))
    → (w : ℕ) → P w (get_or (set rs i r) w no_units) (get_or (set hs i h) w no_units)
both_set P rs hs i r h a b here old w = dite (ℕ_discrete w i)
    (λ e. subst (λ (v : ℕ). P v (get_or (set rs i r) v no_units) (get_or (set hs i h) v no_units)) (sym e)
    (subst (λ (p : RangeState). P i p (get_or (set hs i h) i no_units)) (sym (get_or-set_same rs i r no_units a))
    (subst (λ (p : RangeState). P i r p) (sym (get_or-set_same hs i h no_units b)) here)))
    (λ n. subst (λ (p : RangeState). P w p (get_or (set hs i h) w no_units)) (sym (get_or-set_other rs i w r no_units n))
    (subst (λ (p : RangeState). P w (get_or rs w no_units) p) (sym (get_or-set_other hs i w h no_units n)) (old w)))

pub one_set : {A : Type 0} (P : ℕ → A → Type 0) (xs : List A) (i : ℕ) (x d : A) → i < length xs
    → P i x → ((w : ℕ) → P w (get_or xs w d)) → (w : ℕ) → P w (get_or (set xs i x) w d)
one_set {A} P xs i x d a here old w = dite (ℕ_discrete w i)
    (λ e. subst (λ (v : ℕ). P v (get_or (set xs i x) v d)) (sym e) (subst (λ (p : A). P i p) (sym (get_or-set_same xs i x d a)) here))
    (λ n. subst (λ (p : A). P w p) (sym (get_or-set_other xs i w x d n)) (old w))
