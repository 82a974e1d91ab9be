-- What alerts, and what may be violated now, can be decided.
use Rattle.std.proofs.Common.{◌⊎◌, inl, inr, arith, ℕ, ◌<◌}
use Rattle.daa_config.specs.declared.candidate.Candidate.TheVariants.{Hold}
use Rattle.daa_config.specs.declared.level.Level.{Level}
use Rattle.daa_fixed.proofs.Decidable.{IsDecidable, as_decided}
use Rattle.daa_config.specs.Settings.{Settings, IsAccepted, IsLevelAt}
use Rattle.daa_state.specs.declared.word.Own.{Own}
use Rattle.daa_state.specs.declared.word.Traffic.{Traffic}
use Rattle.daa_state.specs.InRange.{IsOwnInRange, IsTrafficInRange}
use Rattle.daa_legs.specs.Alerts.{Alerts, ViolatesNow}
use Rattle.daa_legs.proofs.AtLevel.{level_at, alerts_at, violates_now_at}
use Rattle.daa_meet.proofs.Meetings.{on_decided, within_decided, now_decided}
use Rattle.daa_alert.proofs.SomeAlert.{AreLegsTold}

module _ (settings : Settings) (own : Own) (aircraft : Traffic) (a : IsAccepted settings) (o : IsOwnInRange own) (t : IsTrafficInRange aircraft) where
  pub legs_told : AreLegsTold settings own aircraft
  legs_told l level at k h =
      let r = a.level l level at in
      let short = r.alert_most in
      on_decided settings own Hold aircraft a o tt t level.volume r.volume k (omega (arith, h, short))

  pub alerts_decided : (l : ℕ) → IsDecidable (Alerts settings own aircraft l)
  alerts_decided l = go (level_at settings l)
    where
      go : ((level : Level) × IsLevelAt settings l level) ⊎ ((level : Level) → IsLevelAt settings l level → ⊥) → IsDecidable (Alerts settings own aircraft l)
      go (inl (level, at)) =
          let r = a.level l level at in
          as_decided (alerts_at settings own aircraft l level at)
          (within_decided settings own Hold aircraft a o tt t level.volume r.volume level.alert r.alert_most)
      go (inr none) = inr (λ m. none m.level m.there)

  pub violated_now_decided : (l : ℕ) → IsDecidable (ViolatesNow settings own aircraft l)
  violated_now_decided l = go (level_at settings l)
    where
      go : ((level : Level) × IsLevelAt settings l level) ⊎ ((level : Level) → IsLevelAt settings l level → ⊥) → IsDecidable (ViolatesNow settings own aircraft l)
      go (inl (level, at)) = as_decided (violates_now_at settings own aircraft l level at) (now_decided settings own aircraft level.volume)
      go (inr none) = inr (λ m. none m.level m.there)
