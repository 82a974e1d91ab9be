-- Levels tried from the greatest on.
use Rattle.std.proofs.Common.{◌≡◌, ℕ, ◌-◌, ◌<◌, ◌≤◌, ⊎_elim, subst, sym, arith}
use Rattle.std.proofs.lemmas.Bool.{cases_eq, cases_lt}
use Rattle.daa_fixed.specs.Mask.{IsGreatestLevel}

-- it holds at no level above l, up to top
pub record IsNoneAbove (Holds : ℕ → Type 0) (top l : ℕ) : Type 0 where
  pub within : l ≤ top
  pub none : (j : ℕ) → l < j → j ≤ top → Holds j → ⊥

pub none_start : (Holds : ℕ → Type 0) (top l : ℕ) → l ≡ top → IsNoneAbove Holds top l
none_start Holds top l e = record { within = omega (arith, e); none = λ j h k. absurd (omega (arith, e, h, k)) }

pub none_next : (Holds : ℕ → Type 0) (top l : ℕ) → 0 < l → IsNoneAbove Holds top l → ¬ Holds l → IsNoneAbove Holds top (l - 1)
none_next Holds top l some h n = record {
  within = omega (arith, h.within);
  none = λ j g k p. ⊎_elim
      (λ e. n (subst Holds (sym e) p))
      (λ e. h.none j (over j g e) k p)
      (cases_eq l j);
}
  where
    over : (j : ℕ) → l - 1 < j → (l ≡ j → ⊥) → l < j
    over j g e = ⊎_elim (λ x. x) (λ x. absurd (e (omega (arith, g, x, some)))) (cases_lt l j)

pub greatest_here : (Holds : ℕ → Type 0) (top l : ℕ) → IsNoneAbove Holds top l → Holds l → IsGreatestLevel Holds top l
greatest_here Holds top l h p = record { within = h.within; holds = λ _. p; none_above = h.none }

pub greatest_none : (Holds : ℕ → Type 0) (top l : ℕ) → l ≤ 0 → IsNoneAbove Holds top l → IsGreatestLevel Holds top 0
greatest_none Holds top l z h = record { within = omega arith; holds = λ k. absurd (omega (arith, k)); none_above = λ j g k. h.none j (omega (arith, g, z)) k }
