use Rattle.std.proofs.Common.{◌≡◌, ◌↔◌, ◌≤◌, ℕ, ◌+◌, ◌-◌, Bool, ℤ, rules, FitsSigned, w64, to_z-of_z, refl, inl, inr, subst, ⊎_elim, arith}
use Rattle.std.specs.Prelude.{IsTrue}
use Rattle.std.proofs.lemmas.Bool.{cases_lt}
use Rattle.std.proofs.lemmas.Option.{slice_get_within}
use Rattle.daa_config.specs.declared.level.Level.{Level}
use Rattle.daa_config.specs.Settings.{Settings, IsLevelAt}
use Rattle.daa_fixed.specs.declared.Solid.{Solid}
use Rattle.daa_legs.proofs.AtLevel.{one_level}
use Rattle.daa_scan.specs.Reach.{place_now, horizontal_speed, vertical_speed, CanEnter}
use Rattle.daa_scan.proofs.Marks.{exact_else, exact_not}
use Rattle.daa_scan.proofs.reach.is_in_reach.Goals as goal
use Rattle.daa_scan.proofs.reach.is_in_reach.Goals.{After-can_enter}

-- at one more level
more : (settings : Settings) (l : ℕ) (here : Level) (P : Level → Type 0) → IsLevelAt settings (l + 1) here
    → ((j : ℕ) (level : Level) → j ≤ l → IsLevelAt settings j level → ¬ P level) → ¬ P here → (j : ℕ) (level : Level) → j ≤ l + 1 → IsLevelAt settings j level → ¬ P level
more settings l here P e h n j level k f p = ⊎_elim
    (λ lt. h j level (omega (arith, lt)) f p)
    (λ ge. let same : j ≡ l + 1 = omega (arith, k, ge) in
    n (subst P (one_level settings (l + 1) level here (subst (λ (i : ℕ). IsLevelAt settings i level) same f) e) p))
    (cases_lt j (l + 1))

same : (b : Bool) (level : Level) (p q : Solid) (h i v u : ℤ) → p ≡ q → h ≡ i → v ≡ u → IsTrue b ↔ CanEnter level p h v → IsTrue b ↔ CanEnter level q i u
same b level p q h i v u e f g x = subst (λ (z : Solid). IsTrue b ↔ CanEnter level z i u) e
    (subst (λ (z : ℤ). IsTrue b ↔ CanEnter level p z u) f (subst (λ (z : ℤ). IsTrue b ↔ CanEnter level p h z) g x))

tested : (c : After-can_enter) → IsTrue c.can_enter.result ↔ CanEnter c.level.result.now (place_now c.args.encounter.now.own.now c.args.encounter.now.aircraft.now)
    (horizontal_speed c.args.encounter.now.config.now c.args.encounter.now.own.now c.args.encounter.now.aircraft.now)
    (vertical_speed c.args.encounter.now.config.now c.args.encounter.now.own.now c.args.encounter.now.aircraft.now)
tested c =
    let f : FitsSigned w64 c.greatest_horizontal_speed-horizontal.result = search rules in
    let g : FitsSigned w64 c.greatest_vertical_speed-vertical.result = search rules in
    same _ _ _ _ _ _ _ _ c.place_at_present-place.ensures.value c.greatest_horizontal_speed-horizontal.ensures.value c.greatest_vertical_speed-vertical.ensures.value
    (simp to_z-of_z at c.can_enter.ensures)

pub loop-done-init : goal.loop-done-init
loop-done-init c j level k f = absurd (omega (arith, k, f.numbered))

pub loop-done-preserved : goal.loop-done-preserved
loop-done-preserved c = more c.args.encounter.now.config.now c.loop-done.done c.level.result.now _ c.level.ensures.value c.loop-done.invariant
    (λ r. let t = (tested c.before).1 r in absurd (cc (t, c.if-can_enter.false)))

pub returns-then-can_enter : goal.returns-then-can_enter
returns-then-can_enter c = (
  (λ _. inr (record { number = c.loop-done.done + 1; level = c.level.result.now; there = c.level.ensures.value; enters = (tested c.before).0 c.if-can_enter.true })),
  (λ _. refl),
)

pub returns : goal.returns
returns c = (
  (λ t. absurd (cc t)),
  (λ reach. ⊎_elim
      (λ unsure. absurd (cc (unsure, exact_else _ _ c.are_exact.ensures c.if-not-are_exact.false)))
      (λ r. let inside = slice_get_within c.args.encounter.now.config.now.levels (r.number - 1) r.level r.there.there in
      absurd (c.loop-done.invariant r.number r.level (omega (arith, inside, c.levels-done-end.ensures.value, c.loop-done-test.false)) r.there r.enters))
      reach),
)

pub returns-then-not-are_exact : goal.returns-then-not-are_exact
returns-then-not-are_exact c = ((λ _. inl (exact_not _ _ c.are_exact.ensures c.if-not-are_exact.true)), (λ _. refl))
