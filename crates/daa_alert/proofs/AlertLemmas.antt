-- A first leg makes an alert.
use Rattle.std.proofs.Common.{◌≡◌, ◌≤◌, ℕ, Bool, true, Option, None, Some, length, refl, sym, ◌∙◌}
use Rattle.std.specs.Prelude.{MatchOption, is_some}
use Rattle.daa_config.specs.Settings.{Settings}
use Rattle.daa_state.specs.declared.word.Own.{Own}
use Rattle.daa_state.specs.declared.word.Traffic.{Traffic}
use Rattle.daa_legs.specs.Alerts.{Alerts, IsFirstLeg}
use Rattle.daa_alert.specs.Alert.{IsAlertOf}
use Rattle.daa_alert.proofs.GreatestLevels.{IsNoneAbove, greatest_here, greatest_none}

module _ (settings : Settings) (own : Own) (aircraft : Traffic) where
  -- a first leg is one within the alert time
  pub alerts_first : (l k : ℕ) → IsFirstLeg settings own aircraft l k → Alerts settings own aircraft l
  alerts_first l k f = record { level = f.level; there = f.there; meets = record { leg = k; before = f.in_time; violates = f.violates } }

  some_first : (l : ℕ) (first : Option ℕ) → is_some first ≡ true → MatchOption first (¬ Alerts settings own aircraft l) (IsFirstLeg settings own aircraft l)
      → Alerts settings own aircraft l × MatchOption first (l ≡ 0) (IsFirstLeg settings own aircraft l)
  some_first l None e f = absurd (cc e)
  some_first l (Some k) e f = (alerts_first l k f, f)

  pub alert_here : (l : ℕ) (first : Option ℕ) (b : Bool) → IsNoneAbove (Alerts settings own aircraft) (length settings.levels) l → b ≡ is_some first → b ≡ true
      → MatchOption first (¬ Alerts settings own aircraft l) (IsFirstLeg settings own aircraft l) → IsAlertOf settings own aircraft (record { level = l; first = first })
  alert_here l first b h e t f =
      let found = some_first l first (sym e ∙ t) f in
      record { greatest = greatest_here (Alerts settings own aircraft) (length settings.levels) l h found.0; first = found.1 }

  pub alert_none : (l : ℕ) → l ≤ 0 → IsNoneAbove (Alerts settings own aircraft) (length settings.levels) l → IsAlertOf settings own aircraft (record { level = 0; first = None })
  alert_none l z h = record { greatest = greatest_none (Alerts settings own aircraft) (length settings.levels) l z h; first = refl }
