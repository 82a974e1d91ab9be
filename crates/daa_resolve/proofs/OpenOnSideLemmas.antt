-- The two tests of an index show whether its value is open on the side.
use Rattle.std.proofs.Common.{◌≡◌, ◌+◌, ◌↔◌, ◌∙◌, ℕ, ℤ, Bool, true, false, Some, slice_get, IsTrue, refl, sym, ap, subst, w32, FitsSigned, to_z, of_z}
use Rattle.std.proofs.lemmas.Int.{to_z-of_z}
use Rattle.daa_config.specs.Candidates.{values_of, start_of}
use Rattle.daa_config.specs.Settings.{Settings}
use Rattle.daa_config.specs.declared.kind.Kind.{Kind}
use Rattle.daa_state.specs.declared.word.Own.{Own}
use Rattle.daa_resolve.specs.Open.{IsOpen}
use Rattle.daa_resolve.specs.Resolution.{IsOpenOnSide}
use Rattle.daa_resolve.specs.Side.{present_of, IsOnSide}
use Rattle.daa_resolve.specs.declared.side.Side.{Side}

-- a number as it comes back from a function
abbrev kept : ℤ → ℤ
kept z = to_z w32 (of_z w32 z)

module _ (Covered : ℕ → ℕ → Type 0) (s : Settings) (own : Own) (kind : Kind) (side : Side) (p start : ℕ) (v now : ℤ) (on free : Bool)
    (value_is : slice_get (values_of kind s) p ≡ Some v) (start_is : start ≡ start_of kind s) (now_is : now ≡ present_of kind own)
    (v_fits : FitsSigned w32 v) (now_fits : FitsSigned w32 now) (on_is : IsTrue on ↔ IsOnSide kind side (kept now) (kept v)) where
  abbrev IsListed : Type 0
  IsListed = (w : ℤ) × IsOpenOnSide Covered s own kind side p w

  same_now : kept now ≡ present_of kind own
  same_now = to_z-of_z w32 now now_fits ∙ now_is

  same_value : kept v ≡ v
  same_value = to_z-of_z w32 v v_fits

  on_side : IsTrue on → IsOnSide kind side (present_of kind own) v
  on_side t =
      subst (λ (z : ℤ). IsOnSide kind side z v) same_now (subst (λ (z : ℤ). IsOnSide kind side (kept now) z) same_value (on_is.0 t))

  is_on : (w : ℤ) → IsOpenOnSide Covered s own kind side p w → IsTrue on
  is_on w c =
      let e : w ≡ v = (let x = c.value_is in cc) in
      let h = subst (λ (z : ℤ). IsOnSide kind side (present_of kind own) z) (e ∙ sym same_value) c.on_side in
      on_is.1 (subst (λ (z : ℤ). IsOnSide kind side z (kept v)) (sym same_now) h)

  pub first_test : on ≡ false → IsTrue on ↔ IsListed
  first_test e = ((λ t. let f : IsTrue false = subst IsTrue e t in cc), (λ x. is_on x.0 x.1))

  pub both_tests : on ≡ true → IsTrue free ↔ IsOpen Covered s (start + p) → IsTrue free ↔ IsListed
  both_tests e open_is =
      let same : start + p ≡ start_of kind s + p = ap (λ (n : ℕ). n + p) start_is in
      let t : IsTrue on = subst IsTrue (sym e) refl in (
        (λ o. (v, record { value_is = value_is; on_side = on_side t; is_open = subst (IsOpen Covered s) same (open_is.0 o) })),
        (λ x. open_is.1 (subst (IsOpen Covered s) (sym same) x.1.is_open)),
      )
