-- An aircraft has one level now, and one alert.
use Rattle.std.proofs.Common.{◌≡◌, ◌∙◌, ℕ, Option, None, Some, refl, ⊎_elim, ap, sym, subst, arith, length}
use Rattle.std.specs.Prelude.{MatchOption}
use Rattle.std.proofs.lemmas.Bool.{cases_lt}
use Rattle.daa_config.specs.declared.candidate.Candidate.TheVariants.{Hold}
use Rattle.daa_config.specs.declared.level.Level.{Level}
use Rattle.daa_config.specs.Settings.{Settings, IsLevelAt}
use Rattle.daa_config.proofs.GreatestLemmas.{greatest_once}
use Rattle.daa_state.specs.declared.word.Own.{Own}
use Rattle.daa_state.specs.declared.word.Traffic.{Traffic}
use Rattle.daa_legs.specs.Alerts.{Alerts, ViolatesNow, IsNowLevel, IsFirstLeg}
use Rattle.daa_legs.specs.Meeting.{ViolatesOn}
use Rattle.daa_alert.specs.declared.aircraft_alert.Alert.{Alert}
use Rattle.daa_alert.specs.Alert.{IsAlertOf}

module _ (settings : Settings) (own : Own) (aircraft : Traffic) where
  pub now_once : (l m : ℕ) → IsNowLevel settings own aircraft l → IsNowLevel settings own aircraft m → l ≡ m
  now_once l m h k = greatest_once (ViolatesNow settings own aircraft) (length settings.levels) l m h k

  -- a level stands once in a configuration
  level_once : (l m : ℕ) (level other : Level) → l ≡ m → IsLevelAt settings l level → IsLevelAt settings m other → level ≡ other
  level_once l m level other e h k =
      let there : IsLevelAt settings l other = subst (λ (n : ℕ). IsLevelAt settings n other) (sym e) k in
      let same : Some level ≡ Some other = sym h.there ∙ there.there in
      cc

  leg_once : (l m k j : ℕ) → l ≡ m → IsFirstLeg settings own aircraft l k → IsFirstLeg settings own aircraft m j → k ≡ j
  leg_once l m k j e h g = ⊎_elim
      (λ lt. absurd (g.none_before k lt (there h.level g.level k (level_once l m h.level g.level e h.there g.there) h.violates)))
      (λ ge. ⊎_elim
      (λ gt. absurd (h.none_before j gt (there g.level h.level j (sym (level_once l m h.level g.level e h.there g.there)) g.violates)))
      (λ le. omega (arith, ge, le))
      (cases_lt j k))
      (cases_lt k j)
    where
      there : (a b : Level) (i : ℕ) → a ≡ b → ViolatesOn settings own Hold aircraft a.volume i → ViolatesOn settings own Hold aircraft b.volume i
      there a b i same v = subst (λ (x : Level). ViolatesOn settings own Hold aircraft x.volume i) same v

  first_once : (l m : ℕ) (a b : Option ℕ) → l ≡ m → MatchOption a (l ≡ 0) (IsFirstLeg settings own aircraft l)
      → MatchOption b (m ≡ 0) (IsFirstLeg settings own aircraft m) → a ≡ b
  first_once l m None None e h k = refl
  first_once l m None (Some j) e h k = let some = k.there.numbered in absurd (omega (arith, e, h))
  first_once l m (Some i) None e h k = let some = h.there.numbered in absurd (omega (arith, e, k))
  first_once l m (Some i) (Some j) e h k = ap (λ (n : ℕ). Some n) (leg_once l m i j e h k)

  pub alert_once : (a b : Alert) → IsAlertOf settings own aircraft a → IsAlertOf settings own aircraft b → a ≡ b
  alert_once a b h k =
      let level = greatest_once (Alerts settings own aircraft) (length settings.levels) a.level b.level h.greatest k.greatest in
      let first = first_once a.level b.level a.first b.first level h.first k.first in
      λ i. record { level = level i; first = first i }
