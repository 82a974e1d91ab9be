-- The bits of a mask, level by level.
use Rattle.std.proofs.Common.{◌≡◌, ◌≢◌, ◌⊎◌, ℕ, ◌-◌, ◌^◌, ◌≤◌, inl, inr, sym, subst, ap, ◌∙◌, arith, ⊎_elim}
use Rattle.std.specs.Prelude.{bit_or}
use Rattle.std.specs.Int.{bit_at}
use Rattle.std.proofs.lemmas.Bool.{cases_eq, cases_lt}
use Rattle.std.proofs.lemmas.Nat.Bits.{bit_at_or, bit_at-pow_same, bit_at-pow_other, bit_at-zero, bit_at-lt}
use Rattle.daa_fixed.specs.Mask.{HasLevel, IsMaskOf}
use Rattle.daa_scan.specs.Adding.{AddsLevels}

set_same : (a l : ℕ) → bit_at (bit_or a (2 ^ l)) l ≡ 1
set_same a l = omega (arith, bit_at_or a (2 ^ l) l, bit_at-pow_same l, bit_at-lt a l)

set_other : (a l j : ℕ) → j ≢ l → bit_at (bit_or a (2 ^ l)) j ≡ bit_at a j
set_other a l j n = omega (arith, bit_at_or a (2 ^ l) j, bit_at-pow_other l j n)

below : (l j : ℕ) → j ≤ l → (j ≡ l → ⊥) → j ≤ l - 1
below l j h n = ⊎_elim (λ k. omega (arith, k)) (λ k. absurd (n (omega (arith, h, k)))) (cases_lt j l)

module _ (Holds : ℕ → Type 0) where
  pub add_start : (mask : ℕ) → AddsLevels Holds 0 mask mask
  add_start mask l one = ((λ b. inl b), (λ s. ⊎_elim (λ b. b) (λ (w, x). absurd (omega (arith, one, w))) s))

  wider : (l j old : ℕ) → HasLevel old j ⊎ ((j ≤ l - 1) × Holds j) → HasLevel old j ⊎ ((j ≤ l) × Holds j)
  wider l j old s = ⊎_elim (λ b. inl b) (λ (w, x). inr (omega (arith, w), x)) s

  -- level l, after those before it
  pub add_set : (l old mask : ℕ) → 1 ≤ l → AddsLevels Holds (l - 1) old mask → Holds l → AddsLevels Holds l old (bit_or mask (2 ^ (l - 1)))
  add_set l old mask first h m j one = ⊎_elim
      (λ e. let here : bit_at (bit_or mask (2 ^ (l - 1))) (j - 1) ≡ 1 = ap (λ (i : ℕ). bit_at (bit_or mask (2 ^ (l - 1))) (i - 1)) e ∙ set_same mask (l - 1) in
      ((λ _. inr (omega (arith, e), subst Holds (sym e) m)), (λ _. here)))
      (λ n. let o = set_other mask (l - 1) (j - 1) (apart j one n) in let is = h j one in
      ((λ b. wider l j old (is.0 (sym o ∙ b))), (λ s. o ∙ is.1 (⊎_elim (λ b. inl b) (λ (w, x). inr (below l j w n, x)) s))))
      (cases_eq j l)
    where
      apart : (j : ℕ) → 1 ≤ j → (j ≡ l → ⊥) → j - 1 ≢ l - 1
      apart j h n e = n (omega (arith, first, h, e))

  -- it is there already if it holds
  pub add_keep : (l old mask : ℕ) → AddsLevels Holds (l - 1) old mask → (Holds l → HasLevel mask l) → AddsLevels Holds l old mask
  add_keep l old mask h k j one = let is = h j one in (
    (λ b. wider l j old (is.0 b)),
    (λ s. ⊎_elim
        (λ b. is.1 (inl b))
        (λ (w, x). ⊎_elim
        (λ e. subst (λ (i : ℕ). HasLevel mask i) (sym e) (k (subst Holds e x)))
        (λ n. is.1 (inr (below l j w n, x)))
        (cases_eq j l))
        s),
  )

  -- what holds up to a level was added
  pub was_added : (l old mask : ℕ) → AddsLevels Holds l old mask → 1 ≤ l → Holds l → HasLevel mask l
  was_added l old mask h one x = (h l one).1 (inr (omega arith, x))

-- what is added to no level
pub mask_of_added : (Holds : ℕ → Type 0) (top mask : ℕ) → AddsLevels Holds top 0 mask → IsMaskOf Holds top mask
mask_of_added Holds top mask h = record {
  each = λ l one upto. (
    (λ b. ⊎_elim (λ z. absurd (no_level l z)) (λ (w, x). x) ((h l one).0 b)),
    (λ x. (h l one).1 (inr (upto, x))),
  );
  none_above = λ l over b. ⊎_elim (λ z. no_level l z) (λ (w, x). absurd (omega (arith, w, over))) ((h l (omega (arith, over))).0 b);
}
  where
    no_level : (l : ℕ) → HasLevel 0 l → ⊥
    no_level l b = let z = bit_at-zero (l - 1) in omega (arith, z, b)
