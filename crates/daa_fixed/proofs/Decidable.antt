-- Facts that can be decided: each holds, or it is known that it does not.
use Rattle.std.proofs.Common.{◌↔◌, ◌⊎◌, inl, inr, refl, arith, ℕ, zero, suc, ◌<◌, Bool, true, false, below_more}
use Rattle.std.specs.Prelude.{IsTrue}

abbrev pub IsDecidable : Type 0 → Type 0
IsDecidable A = A ⊎ (A → ⊥)

pub by_test : {A : Type 0} (b : Bool) → IsTrue b ↔ A → IsDecidable A
by_test true h = inl (h.0 refl)
by_test false h = inr (λ a. absurd (cc (h.1 a)))

pub as_decided : {A B : Type 0} → A ↔ B → IsDecidable A → IsDecidable B
as_decided h (inl a) = inl (h.0 a)
as_decided h (inr n) = inr (λ b. n (h.1 b))

pub both_decided : (A B : Type 0) → IsDecidable A → IsDecidable B → IsDecidable (A × B)
both_decided A B (inl a) (inl b) = inl (a, b)
both_decided A B (inl a) (inr n) = inr (λ p. n p.1)
both_decided A B (inr n) b = inr (λ p. n p.0)

-- whether it holds of some number below n, where it can be decided of each
pub some_decided : (Holds : ℕ → Type 0) (n : ℕ) → ((k : ℕ) → k < n → IsDecidable (Holds k)) → IsDecidable ((k : ℕ) × (k < n) × Holds k)
some_decided Holds zero decided = inr (λ (k, l, p). absurd (omega (arith, l)))
some_decided Holds (suc n) decided = go (some_decided Holds n (λ k l. decided k (omega (arith, l)))) (decided n (omega arith))
  where
    go : IsDecidable ((k : ℕ) × (k < n) × Holds k) → IsDecidable (Holds n) → IsDecidable ((k : ℕ) × (k < suc n) × Holds k)
    go (inl (k, l, p)) here = inl (k, omega (arith, l), p)
    go (inr none) (inl p) = inl (n, omega arith, p)
    go (inr none) (inr not) = inr (λ (k, l, p). below_more (λ j. Holds j → ⊥) n (λ j b q. none (j, b, q)) not k (omega (arith, l)) p)
