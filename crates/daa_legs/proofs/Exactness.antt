-- The two cases: exact reports, and others.
use Rattle.std.proofs.Common.{◌≡◌, ◌↔◌, sym, subst, ◌∙◌, ℕ, ℤ, Bool, true, false}
use Rattle.std.specs.Prelude.{IsTrue}
use Rattle.daa_fixed.specs.Time.{HoldsSometime}
use Rattle.daa_fixed.specs.declared.Leg.{Leg}
use Rattle.daa_taumod.specs.declared.Volume.{Volume}
use Rattle.daa_taumod.specs.Volume.{Violates}
use Rattle.daa_config.specs.declared.candidate.Candidate.{Candidate}
use Rattle.daa_config.specs.Settings.{Settings}
use Rattle.daa_state.specs.declared.word.Own.{Own}
use Rattle.daa_state.specs.declared.word.Traffic.{Traffic}
use Rattle.daa_legs.specs.Meeting.{relative_leg, ViolatesOn}
use Rattle.daa_margin.specs.declared.ErrorBounds.{ErrorBounds}
use Rattle.daa_margin.specs.MayViolate.{MayViolate}
use Rattle.daa_legs.specs.Errors.{are_exact, errors_on}
use Rattle.daa_legs.specs.Violating.{ViolatesIf}

module _ (secs : ℕ) (leg : Leg) (volume : Volume) (errors : ErrorBounds) where
  pub if_exact : (exact : Bool) → exact ≡ true → HoldsSometime secs (ViolatesIf exact leg volume errors) ↔ HoldsSometime secs (Violates leg volume)
  if_exact exact e = subst (λ (b : Bool). HoldsSometime secs (ViolatesIf b leg volume errors) ↔ HoldsSometime secs (Violates leg volume)) (sym e) ((λ h. h), (λ h. h))

  pub if_not : (exact : Bool) → exact ≡ false → HoldsSometime secs (ViolatesIf exact leg volume errors) ↔ HoldsSometime secs (MayViolate leg volume errors)
  if_not exact e = subst (λ (b : Bool). HoldsSometime secs (ViolatesIf b leg volume errors) ↔ HoldsSometime secs (MayViolate leg volume errors)) (sym e) ((λ h. h), (λ h. h))

  -- a test of exact reports
  pub tested_exact : (r b exact : Bool) → IsTrue b → b ≡ exact → IsTrue r ↔ HoldsSometime secs (Violates leg volume) → IsTrue r ↔ HoldsSometime secs (ViolatesIf exact leg volume errors)
  tested_exact r b exact t e h = let same = if_exact exact (sym e ∙ t) in ((λ x. same.1 (h.0 x)), (λ v. h.1 (same.0 v)))

-- the same at one time
module _ (leg rel : Leg) (volume : Volume) (errors : ErrorBounds) (n d : ℤ) (r b exact : Bool) (same : rel ≡ leg) (tests : b ≡ exact) where
  pub at_exact : IsTrue b → IsTrue r ↔ Violates rel volume n d → IsTrue r ↔ ViolatesIf exact leg volume errors n d
  at_exact t h = subst (λ (e : Bool). IsTrue r ↔ ViolatesIf e leg volume errors n d) (sym t ∙ tests) (subst (λ (l : Leg). IsTrue r ↔ Violates l volume n d) same h)

  pub at_not : (found : ErrorBounds) → found ≡ errors → b ≡ false → IsTrue r ↔ MayViolate rel volume found n d → IsTrue r ↔ ViolatesIf exact leg volume errors n d
  at_not found is f h = subst (λ (e : Bool). IsTrue r ↔ ViolatesIf e leg volume errors n d) (sym f ∙ tests)
      (subst (λ (x : ErrorBounds). IsTrue r ↔ MayViolate leg volume x n d) is (subst (λ (l : Leg). IsTrue r ↔ MayViolate l volume found n d) same h))

module _ (settings : Settings) (own : Own) (candidate : Candidate) (aircraft : Traffic) (volume : Volume) where
  -- what is violated on leg k, as reported
  abbrev pub IsReportedOn : ℕ → Type 0
  IsReportedOn k = HoldsSometime 1 (Violates (relative_leg settings own candidate aircraft k) volume)

  pub exact_leg : are_exact aircraft.bounds ≡ true → (k : ℕ) → ViolatesOn settings own candidate aircraft volume k ↔ IsReportedOn k
  exact_leg e k = if_exact 1 (relative_leg settings own candidate aircraft k) volume (errors_on aircraft.bounds aircraft.age k) (are_exact aircraft.bounds) e

  -- what may be violated on leg k, where the reports are not exact
  abbrev pub IsUnsureOn : ℕ → Type 0
  IsUnsureOn k = HoldsSometime 1 (MayViolate (relative_leg settings own candidate aircraft k) volume (errors_on aircraft.bounds aircraft.age k))

  pub unsure_leg : are_exact aircraft.bounds ≡ false → (k : ℕ) → ViolatesOn settings own candidate aircraft volume k ↔ IsUnsureOn k
  unsure_leg e k = if_not 1 (relative_leg settings own candidate aircraft k) volume (errors_on aircraft.bounds aircraft.age k) (are_exact aircraft.bounds) e
