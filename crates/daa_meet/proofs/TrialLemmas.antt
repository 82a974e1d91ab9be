-- Tests that compute, and the facts that they decide.
use Rattle.std.proofs.Common.{◌≡◌, ◌↔◌, ◌⊎◌, inl, inr, ⊎_elim, refl, subst, arith, ℕ, zero, suc, ◌<◌, Bool, true, false, ◌&&◌, ◌||◌, ℤ, ◌≤ℤ◌, ◌<ℤ◌}
use Rattle.std.specs.Prelude.{IsTrue, int_le, int_lt}
use Rattle.std.proofs.lemmas.Bool.{cases_lt}
use Rattle.daa_fixed.proofs.Bounds.{le_test, lt_test}
use Rattle.daa_meet.proofs.Trials.{some_below}

pub le_is : (x y : ℤ) → IsTrue (int_le x y) ↔ (x ≤ℤ y)
le_is x y = le_test x y x y refl refl

pub lt_is : (x y : ℤ) → IsTrue (int_lt x y) ↔ (x <ℤ y)
lt_is x y = lt_test x y x y refl refl

pub both_is : {A B : Type 0} (a b : Bool) → IsTrue a ↔ A → IsTrue b ↔ B → IsTrue (a && b) ↔ (A × B)
both_is true b f g = ((λ t. (f.0 refl, g.0 t)), (λ p. g.1 p.1))
both_is false b f g = ((λ t. absurd (cc t)), (λ p. f.1 p.0))

pub either_is : {A B : Type 0} (a b : Bool) → IsTrue a ↔ A → IsTrue b ↔ B → IsTrue (a || b) ↔ (A ⊎ B)
either_is true b f g = ((λ t. inl (f.0 refl)), (λ p. refl))
either_is false b f g = ((λ t. inr (g.0 t)), (λ p. ⊎_elim (λ x. absurd (cc (f.1 x))) g.1 p))

-- a number below n at which it is true
pub record IsSomeBelow (f : ℕ → Bool) (n : ℕ) : Type 0 where
  pub number : ℕ
  pub below : number < n
  pub holds : IsTrue (f number)

pub some_is : (f : ℕ → Bool) (n : ℕ) → IsTrue (some_below f n) ↔ IsSomeBelow f n
unfolding some_below
some_is f zero = ((λ t. absurd (cc t)), (λ s. absurd (omega (arith, s.below))))
some_is f (suc n) =
    let e = either_is (f n) (some_below f n) ((λ (t : IsTrue (f n)). t), (λ (t : IsTrue (f n)). t)) (some_is f n) in (
      (λ t. ⊎_elim
          (λ h. record { number = n; below = omega arith; holds = h })
          (λ s. record { number = s.number; below = omega (arith, s.below); holds = s.holds })
          (e.0 t)),
      (λ s. e.1 (⊎_elim
          (λ l. inr (record { number = s.number; below = l; holds = s.holds }))
          (λ g. let same : s.number ≡ n = omega (arith, s.below, g) in inl (subst (λ (i : ℕ). IsTrue (f i)) same s.holds))
          (cases_lt s.number n))),
    )
