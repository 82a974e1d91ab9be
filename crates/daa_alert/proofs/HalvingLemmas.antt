-- Halving a number of seconds within which the present flight violates a volume.
use Rattle.std.proofs.Common.{ℕ, ◌+◌, ◌<◌, ◌≤◌, ◌≡◌, subst, ⊎_elim, arith}
use Rattle.std.proofs.lemmas.Bool.{cases_lt}
use Rattle.daa_taumod.specs.declared.Volume.{Volume}
use Rattle.daa_config.specs.declared.candidate.Candidate.TheVariants.{Hold}
use Rattle.daa_config.specs.Settings.{Settings}
use Rattle.daa_state.specs.declared.word.Own.{Own}
use Rattle.daa_state.specs.declared.word.Traffic.{Traffic}
use Rattle.daa_legs.specs.Meeting.{ViolatesOn, MeetsWithin}
use Rattle.daa_alert.specs.Inside.Halving.{IsLeastLeg}

-- within high, and not within low
pub record IsHalved (settings : Settings) (own : Own) (aircraft : Traffic) (volume : Volume) (low high m : ℕ) : Type 0 where
  pub not_within : ¬ MeetsWithin settings own Hold aircraft volume low
  pub within : MeetsWithin settings own Hold aircraft volume high
  pub order : low < high
  pub upto : high ≤ m

module _ (settings : Settings) (own : Own) (aircraft : Traffic) (volume : Volume) where
  pub halved_start : (m : ℕ) → MeetsWithin settings own Hold aircraft volume m → IsHalved settings own aircraft volume 0 m m
  halved_start m e = record {
    not_within = λ n. absurd (omega (arith, n.before));
    within = e;
    order = omega (arith, e.before);
    upto = omega arith;
  }

  pub halved_least : (low high m : ℕ) → IsHalved settings own aircraft volume low high m → high ≤ low + 1 → IsLeastLeg settings own aircraft volume low
  halved_least low high m h k =
      let none : (j : ℕ) → j < low → ¬ ViolatesOn settings own Hold aircraft volume j = λ j l v. h.not_within (record { leg = j; before = l; violates = v }) in
      record { violates = at_low h.within.leg h.within.before h.within.violates; none_before = none }
    where
      at_low : (j : ℕ) → j < high → ViolatesOn settings own Hold aircraft volume j → ViolatesOn settings own Hold aircraft volume low
      at_low j l v = ⊎_elim
          (λ e. absurd (h.not_within (record { leg = j; before = e; violates = v })))
          (λ e. let same : j ≡ low = omega (arith, e, l, k) in subst (λ (i : ℕ). ViolatesOn settings own Hold aircraft volume i) same v)
          (cases_lt j low)
