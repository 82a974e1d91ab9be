-- What holds at a level, told of the one level that has its number.
use Rattle.std.proofs.Common.{◌≡◌, ◌↔◌, ◌⊎◌, inl, inr, ℕ, zero, suc, ◌-◌, pos, Option, Some, None, refl, sym, subst, ◌∙◌, arith}
use Rattle.std.specs.Prelude.{slice_get}
use Rattle.std.proofs.lemmas.Option.{same_Some}
use Rattle.daa_config.specs.declared.candidate.Candidate.{Candidate}
use Rattle.daa_config.specs.declared.candidate.Candidate.TheVariants.{Hold}
use Rattle.daa_config.specs.declared.level.Level.{Level}
use Rattle.daa_config.specs.Settings.{Settings, IsLevelAt}
use Rattle.daa_state.specs.declared.word.Own.{Own}
use Rattle.daa_state.specs.declared.word.Traffic.{Traffic}
use Rattle.daa_legs.specs.Violating.{ViolatesBy}
use Rattle.daa_legs.specs.Meeting.{relative_leg, MeetsWithin, Meets}
use Rattle.daa_legs.specs.Alerts.{Alerts, ViolatesNow}

pub one_level : (settings : Settings) (l : ℕ) (x y : Level) → IsLevelAt settings l x → IsLevelAt settings l y → x ≡ y
one_level settings l x y h k = same_Some x y (sym h.there ∙ k.there)

-- what is there, or that there is none
pub looked : {X : Type 0} (o : Option X) → ((x : X) × (o ≡ Some x)) ⊎ (o ≡ None)
looked (Some x) = inl (x, refl)
looked None = inr refl

pub nothing : {X : Type 0} (x : X) (o : Option X) → o ≡ None → o ≡ Some x → ⊥
nothing x o e f = cc

-- a level that is there, or none of that number
pub level_at : (settings : Settings) (l : ℕ) → ((level : Level) × IsLevelAt settings l level) ⊎ ((level : Level) → IsLevelAt settings l level → ⊥)
level_at settings zero = inr (λ level h. let n = h.numbered in omega arith)
level_at settings (suc l) = go (looked (slice_get settings.levels (suc l - 1)))
  where
    go : ((level : Level) × (slice_get settings.levels (suc l - 1) ≡ Some level)) ⊎ (slice_get settings.levels (suc l - 1) ≡ None)
        → ((level : Level) × IsLevelAt settings (suc l) level) ⊎ ((level : Level) → IsLevelAt settings (suc l) level → ⊥)
    go (inl (level, e)) = inl (level, record { numbered = omega arith; there = e })
    go (inr none) = inr (λ level h. nothing level _ none h.there)

module _ (settings : Settings) (own : Own) (aircraft : Traffic) (l : ℕ) (level : Level) (at : IsLevelAt settings l level) where
  pub meets_at : (candidate : Candidate) → MeetsWithin settings own candidate aircraft level.volume level.lookahead ↔ Meets settings own candidate aircraft l
  meets_at candidate = (
    (λ m. record { level = level; there = at; meets = m }),
    (λ m. subst (λ (x : Level). MeetsWithin settings own candidate aircraft x.volume x.lookahead) (one_level settings l m.level level m.there at) m.meets),
  )

  pub alerts_at : MeetsWithin settings own Hold aircraft level.volume level.alert ↔ Alerts settings own aircraft l
  alerts_at = (
    (λ m. record { level = level; there = at; meets = m }),
    (λ m. subst (λ (x : Level). MeetsWithin settings own Hold aircraft x.volume x.alert) (one_level settings l m.level level m.there at) m.meets),
  )

  pub violates_now_at : ViolatesBy aircraft 0 (relative_leg settings own Hold aircraft 0) level.volume (pos 0) (pos 1) ↔ ViolatesNow settings own aircraft l
  violates_now_at = (
    (λ v. record { level = level; there = at; violates = v }),
    (λ v. subst (λ (x : Level). ViolatesBy aircraft 0 (relative_leg settings own Hold aircraft 0) x.volume (pos 0) (pos 1)) (one_level settings l v.level level v.there at) v.violates),
  )
