-- Bits of a mask.
use Rattle.std.proofs.Common.{◌≡◌, ◌<◌, ◌≤◌, ◌+◌, ◌-◌, ◌*◌, ◌/◌, ◌%◌, ◌^◌, ◌∙◌, ◌⊎◌, ℕ, zero, suc, ⊎_elim, refl, sym, ap, subst, arith, inl, inr}
use Rattle.std.specs.Int.{bit_at}
use Rattle.std.proofs.lemmas.Bool.{cases_lt}
use Rattle.std.proofs.lemmas.Nat.{leading_top, leading_length, pow_below}
use lib.Count.{count_leading_zeros, leading_of_zero}
use Rattle.std.proofs.lemmas.Nat.Bits.{bit_at_cat_low, bit_at_cat_high, bit_at_above, bit_at-zero}
use Rattle.daa_fixed.specs.Mask.{HasLevel, IsGreatestLevel}
use Rattle.daa_bands.specs.Board.{mask_levels}
use Rattle.daa_bands.specs.Walk.{shown_of}

-- the low eight bits
low_bit : (n i : ℕ) → i < 8 → bit_at n i ≡ bit_at (n % 2 ^ 8) i
low_bit n i h =
    let e : n ≡ n / 2 ^ 8 * 2 ^ 8 + n % 2 ^ 8 = omega arith in
    subst (λ (m : ℕ). bit_at m i ≡ bit_at (n % 2 ^ 8) i) (sym e) (bit_at_cat_low (n / 2 ^ 8) 8 (n % 2 ^ 8) i h)

top_bit : (n j : ℕ) → 2 ^ j ≤ n → n < 2 ^ suc j → bit_at n j ≡ 1
top_bit n j h k =
    let p : 2 ^ suc j ≡ 2 ^ j + 2 ^ j = omega arith in
    let e : n ≡ 1 * 2 ^ j + (n - 2 ^ j) = omega arith in
    let z : j - j ≡ 0 = omega arith in
    subst (λ (m : ℕ). bit_at m j ≡ 1) (sym e) (bit_at_cat_high 1 j (n - 2 ^ j) j (omega arith) (omega arith) ∙ ap (bit_at 1) z)

bit_one : (x : ℕ) → x ≡ 1 → x ≡ 0 → ⊥
bit_one x h k = omega arith

greatest_below : (mask a : ℕ) → a < 2 ^ 8 → ((i : ℕ) → i < 8 → bit_at mask i ≡ bit_at a i) → (a ≡ 0) ⊎ (0 < a) → IsGreatestLevel (HasLevel mask) mask_levels (8 - count_leading_zeros 8 a)
greatest_below mask a h same (inl e) =
    let z : 8 - count_leading_zeros 8 a ≡ 0 = ap (λ (x : ℕ). 8 - count_leading_zeros 8 x) e ∙ ap (λ (x : ℕ). 8 - x) (leading_of_zero 8) in
    subst (IsGreatestLevel (HasLevel mask) mask_levels) (sym z) (record {
      within = omega arith;
      holds = λ p. absurd (omega arith);
      none_above = λ l p q b. bit_one _ b (same (l - 1) (omega arith) ∙ ap (λ (x : ℕ). bit_at x (l - 1)) e ∙ bit_at-zero (l - 1));
    })
greatest_below mask a h same (inr p) =
    let t = leading_top 8 a p h in let j = t.0 in
    let z : 8 - count_leading_zeros 8 a ≡ suc j = (let e = t.1 in omega arith) in
    let short : j < 8 = (let e = t.1 in omega arith) in
    let back : suc j - 1 ≡ j = omega arith in
    subst (IsGreatestLevel (HasLevel mask) mask_levels) (sym z) (record {
      within = omega arith;
      holds = λ q. ap (bit_at mask) back ∙ same j short ∙ top_bit a j t.2 t.3;
      none_above = λ l q r b. bit_one _ b (same (l - 1) (omega arith) ∙ bit_at_above a (suc j) (l - 1) t.3 (omega arith));
    })

empty_or_not : (a : ℕ) → (a ≡ 0) ⊎ (0 < a)
empty_or_not zero = inl refl
empty_or_not (suc a) = inr (omega arith)

pub greatest_shown : (mask : ℕ) → IsGreatestLevel (HasLevel mask) mask_levels (shown_of mask)
unfolding shown_of
greatest_shown mask = greatest_below mask (mask % 2 ^ 8) (omega arith) (λ i h. low_bit mask i h) (empty_or_not (mask % 2 ^ 8))

pub shown_is : (mask : ℕ) → mask < 2 ^ 8 → 8 - count_leading_zeros 8 mask ≡ shown_of mask
unfolding shown_of
shown_is mask h = let e : mask % 2 ^ 8 ≡ mask = omega arith in ap (λ (x : ℕ). 8 - count_leading_zeros 8 x) (sym e)

-- a power of two at most a number, and the next one above it, are the same for all
same_power : (x i j : ℕ) → 2 ^ i ≤ x → x < 2 ^ suc i → 2 ^ j ≤ x → x < 2 ^ suc j → i ≡ j
same_power x i j a b c d = ⊎_elim
    (λ l. absurd (apart i j l b c))
    (λ g. ⊎_elim (λ l. absurd (apart j i l d a)) (λ h. omega (arith, g, h)) (cases_lt j i))
    (cases_lt i j)
  where
    apart : (i j : ℕ) → i < j → x < 2 ^ suc i → 2 ^ j ≤ x → ⊥
    apart i j l b c = ⊎_elim
        (λ m. let p = pow_below (suc i) j m in omega (arith, p, b, c))
        (λ g. let e : j ≡ suc i = omega (arith, l, g) in let q = subst (λ (n : ℕ). 2 ^ n ≤ x) e c in omega (arith, q, b))
        (cases_lt (suc i) j)

-- the same, found with a bit below those of the levels
pub shown_by_more : (mask : ℕ) → mask < 2 ^ 8 → 31 - count_leading_zeros 32 (2 * mask + 1) ≡ shown_of mask
shown_by_more mask h =
    let t = leading_top 32 (2 * mask + 1) (omega arith) (omega (arith, h)) in
    let l = leading_length 8 mask h in
    let twice : 2 ^ suc l.0 ≡ 2 ^ l.0 + 2 ^ l.0 = omega arith in
    let e = t.1 in
    let f = l.1 in
    let same = same_power (2 * mask + 1) t.0 l.0 t.2 t.3 l.3 (let b = l.2 in omega (arith, b, twice)) in
    let all : 31 - count_leading_zeros 32 (2 * mask + 1) ≡ 8 - count_leading_zeros 8 mask = omega (arith, e, f, same) in
    all ∙ shown_is mask h
