-- An aircraft has a level now, and an alert, wherever it can be decided what is violated.
use Rattle.std.proofs.Common.{◌≡◌, ◌⊎◌, inl, inr, ℕ, zero, suc, ◌-◌, ◌<◌, ◌≤◌, None, Some, length, subst, refl, arith, below_more}
use Rattle.daa_config.specs.declared.candidate.Candidate.TheVariants.{Hold}
use Rattle.daa_config.specs.declared.level.Level.{Level}
use Rattle.daa_fixed.specs.Mask.{IsGreatestLevel}
use Rattle.daa_config.specs.Settings.{Settings, IsLevelAt}
use Rattle.daa_fixed.proofs.Decidable.{IsDecidable}
use Rattle.daa_state.specs.declared.word.Own.{Own}
use Rattle.daa_state.specs.declared.word.Traffic.{Traffic}
use Rattle.daa_legs.specs.Alerts.{Alerts, ViolatesNow, IsNowLevel, IsFirstLeg}
use Rattle.daa_legs.specs.Meeting.{ViolatesOn}
use Rattle.daa_alert.specs.declared.aircraft_alert.Alert.{Alert}
use Rattle.daa_alert.specs.Alert.{IsAlertOf}
use Rattle.daa_alert.proofs.GreatestLevels.{IsNoneAbove, none_start, none_next, greatest_here, greatest_none}

-- ---- the greatest level

module _ (Holds : ℕ → Type 0) (decided : (l : ℕ) → IsDecidable (Holds l)) (top : ℕ) where
  -- the levels are tried from l down
  tried_from : (l : ℕ) → IsNoneAbove Holds top l → (level : ℕ) × IsGreatestLevel Holds top level
  tried_from zero h = (0, greatest_none Holds top 0 (omega arith) h)
  tried_from (suc l) h = go (λ n. tried_from l (subst (IsNoneAbove Holds top) back (none_next Holds top (suc l) (omega arith) h n))) (decided (suc l))
    where
      back : suc l - 1 ≡ l
      back = omega arith

      go : ((Holds (suc l) → ⊥) → (level : ℕ) × IsGreatestLevel Holds top level) → IsDecidable (Holds (suc l)) → (level : ℕ) × IsGreatestLevel Holds top level
      go lower (inl p) = (suc l, greatest_here Holds top (suc l) h p)
      go lower (inr n) = lower n

  pub some_greatest : (level : ℕ) × IsGreatestLevel Holds top level
  some_greatest = tried_from top (none_start Holds top top refl)

-- ---- the least leg

module _ (Holds : ℕ → Type 0) (most : ℕ) (decided : (k : ℕ) → k < most → IsDecidable (Holds k)) where
  -- one below n is the least, or there is none
  abbrev Least : ℕ → Type 0
  Least n = ((k : ℕ) × (k < n) × Holds k × ((j : ℕ) → j < k → Holds j → ⊥)) ⊎ ((j : ℕ) → j < n → Holds j → ⊥)

  least_below : (n : ℕ) → n ≤ most → Least n
  least_below zero h = inr (λ j l p. omega arith)
  least_below (suc n) h = go (least_below n (omega arith)) (decided n (omega arith))
    where
      go : Least n → IsDecidable (Holds n) → Least (suc n)
      go (inl (k, l, p, before)) t = inl (k, omega arith, p, before)
      go (inr before) (inl p) = inl (n, omega arith, p, before)
      go (inr before) (inr not) = inr (λ j l. below_more (λ i. Holds i → ⊥) n before not j (omega (arith, l)))

  pub some_least : (k : ℕ) → k < most → Holds k → (least : ℕ) × (least < most) × Holds least × ((j : ℕ) → j < least → Holds j → ⊥)
  some_least k l p = go (least_below most (omega arith))
    where
      go : Least most → (least : ℕ) × (least < most) × Holds least × ((j : ℕ) → j < least → Holds j → ⊥)
      go (inl found) = found
      go (inr none) = absurd (none k l p)

-- ---- an aircraft

module _ (settings : Settings) (own : Own) (aircraft : Traffic) where
  pub some_now : ((l : ℕ) → IsDecidable (ViolatesNow settings own aircraft l)) → (now : ℕ) × IsNowLevel settings own aircraft now
  some_now decided = some_greatest (ViolatesNow settings own aircraft) decided (length settings.levels)

  -- on each leg before a level's alert time it can be told whether its volume is violated
  abbrev pub AreLegsTold : Type 0
  AreLegsTold = (l : ℕ) (level : Level) → IsLevelAt settings l level → (k : ℕ) → k < level.alert
      → IsDecidable (ViolatesOn settings own Hold aircraft level.volume k)

  module _ (legs : AreLegsTold) where
    first_leg : (l : ℕ) → Alerts settings own aircraft l → (k : ℕ) × IsFirstLeg settings own aircraft l k
    first_leg l a =
        let m = some_least (ViolatesOn settings own Hold aircraft a.level.volume) a.level.alert (legs l a.level a.there) a.meets.leg a.meets.before a.meets.violates in
        (m.0, record { level = a.level; there = a.there; in_time = m.1; violates = m.2; none_before = m.3 })

    pub some_alert : ((l : ℕ) → IsDecidable (Alerts settings own aircraft l)) → (alert : Alert) × IsAlertOf settings own aircraft alert
    some_alert decided = let g = some_greatest (Alerts settings own aircraft) decided (length settings.levels) in by_level g.0 g.1
      where
        by_level : (l : ℕ) → IsGreatestLevel (Alerts settings own aircraft) (length settings.levels) l → (alert : Alert) × IsAlertOf settings own aircraft alert
        by_level zero g = (record { level = 0; first = None }, record { greatest = g; first = refl })
        by_level (suc l) g =
            let f = first_leg (suc l) (g.holds (omega arith)) in
            (record { level = suc l; first = Some f.0 }, record { greatest = g; first = f.1 })
