-- A kind has no two recoveries.
use Rattle.std.proofs.Common.{◌≡◌, ℕ, ◌<◌, ℤ, ◌≤ℤ◌, Option, Some, None, sym, subst, ap, ap₂, ◌∙◌, arith, ⊎_elim, refl}
use Rattle.std.proofs.lemmas.Bool.{cases_lt}
use Rattle.std.proofs.lemmas.Int.{ints}
use Rattle.std.proofs.lemmas.Option.{same_Some}
use Rattle.daa_taumod.specs.declared.Volume.{Volume}
use Rattle.daa_config.specs.declared.kind.Kind.{Kind}
use Rattle.daa_config.specs.Settings.{Settings, IsAccepted}
use Rattle.daa_state.specs.declared.word.Picture.{Picture}
use Rattle.daa_resolve.specs.declared.side.Side.{Side}
use Rattle.daa_recovery.specs.OutlookState.{OutlookState}
use Rattle.daa_recovery.specs.Recovery.{RecoversAt, IsLeast, IsFound, IsRecoveryAmong}
use Rattle.daa_recovery.specs.declared.recovery.Recovery.{Recovery}
use Rattle.daa_recovery.proofs.Horizons.{horizon_only}
use Rattle.daa_recovery.proofs.Places.{placed_only}

module _ (p : OutlookState) (kind : Kind) (side : Option Side) where
  no_later : (x y : Recovery) → IsLeast p kind side x → IsLeast p kind side y → x.after < y.after → ⊥
  no_later x y h k lt = k.none_sooner x.after h.some lt h.index x.value h.recovers

  same_after : (x y : Recovery) → IsLeast p kind side x → IsLeast p kind side y → x.after ≡ y.after
  same_after x y h k = ⊎_elim
      (λ lt. absurd (no_later x y h k lt))
      (λ ge. ⊎_elim (λ gt. absurd (no_later y x k h gt)) (λ le. omega (arith, ge, le)) (cases_lt y.after x.after))
      (cases_lt x.after y.after)

  same_least : IsAccepted p.settings → (x y : Recovery) → IsLeast p kind side x → IsLeast p kind side y → x ≡ y
  same_least ok x y h k =
      let e = same_after x y h k in
      let there = subst (λ (m : ℕ). RecoversAt p kind side k.index m y.value) (sym e) k.recovers in
      let back = subst (λ (m : ℕ). RecoversAt p kind side h.index m x.value) e h.recovers in
      let first = h.first k.index y.value there in
      let second = k.first h.index x.value back in
      let v = placed_only p.settings p.picture.own kind x.value y.value h.index k.index ok h.recovers.there k.recovers.there (both _ _ first second) in
      ap₂ (λ (m : ℕ) (z : ℤ). record { after = m; value = z }) e v
    where
      both : (a b : ℤ) → a ≤ℤ b → b ≤ℤ a → a ≡ b
      both a b f g = omega (arith, ints)

  pub found_only : IsAccepted p.settings → (x y : Option Recovery) → IsFound p kind side x → IsFound p kind side y → x ≡ y
  found_only ok None None h k = refl
  found_only ok None (Some y) h k = absurd (h y.after k.some k.before k.index y.value k.recovers)
  found_only ok (Some x) None h k = absurd (k x.after h.some h.before h.index x.value h.recovers)
  found_only ok (Some x) (Some y) h k = ap (λ (r : Recovery). Some r) (same_least ok x y h k)

pub recovery_only : (side : Option Side) (s : Settings) (picture : Picture) (kind : Kind) → IsAccepted s → (x y : Option Recovery) → IsRecoveryAmong side s picture kind x
    → IsRecoveryAmong side s picture kind y → x ≡ y
recovery_only side s picture kind ok x y h k =
    let c : h.cylinder ≡ k.cylinder = same_Some h.cylinder k.cylinder (sym h.asked ∙ k.asked) in
    let m : h.horizon ≡ k.horizon = horizon_only s h.horizon k.horizon h.ahead k.ahead in
    let moved = subst (λ (v : Volume). IsFound (record { settings = s; picture = picture; cylinder = v; horizon = h.horizon }) kind side x) c h.found in
    let same = subst (λ (n : ℕ). IsFound (record { settings = s; picture = picture; cylinder = k.cylinder; horizon = n }) kind side x) m moved in
    found_only (record { settings = s; picture = picture; cylinder = k.cylinder; horizon = k.horizon }) kind side ok x y same k.found
