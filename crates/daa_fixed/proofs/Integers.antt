-- The order of ℤ and its products.
use Rattle.std.proofs.Common.{[], ◌∷◌, ◌≡◌, zero, suc, subst, arith, ℤ, pos, negsuc, ◌+ℤ◌, ◌*ℤ◌, ◌-ℤ◌, ◌≤ℤ◌, ◌<ℤ◌}
use Rattle.std.proofs.lemmas.Int.{ints, by_lt_z}
use Rattle.std.proofs.Math.IntN.{*ℤ_comm}
use Rattle.daa_fixed.proofs.Ring.{mul_nonneg, ring, #, ◌⊕◌, ◌⊖◌, ◌⊗◌}

-- ---- signs of products
pub mul_pos : (a b : ℤ) → pos 0 <ℤ a → pos 0 <ℤ b → pos 0 <ℤ (a *ℤ b)
mul_pos (pos zero) b h k = absurd (omega (arith, ints))
mul_pos (pos (suc a)) (pos zero) h k = absurd (omega (arith, ints))
mul_pos (pos (suc a)) (pos (suc b)) h k = omega (arith, ints)
mul_pos (negsuc a) b h k = absurd (omega (arith, ints))
mul_pos (pos a) (negsuc b) h k = absurd (omega (arith, ints))

-- a positive factor goes
pub cancel_le : (c x : ℤ) → pos 0 <ℤ c → pos 0 ≤ℤ (c *ℤ x) → pos 0 ≤ℤ x
cancel_le (pos zero) x h k = absurd (omega (arith, ints))
cancel_le (pos (suc c)) (pos x) h k = omega (arith, ints)
cancel_le (pos (suc c)) (negsuc x) h k = absurd (omega (arith, ints))
cancel_le (negsuc c) x h k = absurd (omega (arith, ints))

pub cancel_lt : (c x : ℤ) → pos 0 ≤ℤ c → pos 0 <ℤ (c *ℤ x) → pos 0 <ℤ x
cancel_lt (pos c) (pos (suc x)) h k = omega (arith, ints)
cancel_lt (pos c) (pos zero) h k = absurd (omega (arith, ints))
cancel_lt (pos c) (negsuc x) h k = absurd (omega (arith, ints))
cancel_lt (negsuc c) x h k = absurd (omega (arith, ints))

pub mul_neg_neg : (a b : ℤ) → a ≤ℤ pos 0 → b ≤ℤ pos 0 → pos 0 ≤ℤ (a *ℤ b)
mul_neg_neg (pos zero) b h k = omega (arith, ints)
mul_neg_neg (pos (suc a)) b h k = absurd (omega (arith, ints))
mul_neg_neg (negsuc a) (pos zero) h k = omega (arith, ints)
mul_neg_neg (negsuc a) (pos (suc b)) h k = absurd (omega (arith, ints))
mul_neg_neg (negsuc a) (negsuc b) h k = omega (arith, ints)

-- ---- a difference that is a sum of things not negative
pub sum_nonneg : (x y : ℤ) → pos 0 ≤ℤ x → pos 0 ≤ℤ y → pos 0 ≤ℤ (x +ℤ y)
sum_nonneg x y h k = omega (arith, ints)

pub by_sum : (x y u v : ℤ) → y -ℤ x ≡ u +ℤ v → pos 0 ≤ℤ u → pos 0 ≤ℤ v → x ≤ℤ y
by_sum x y u v e h k = omega (arith, ints)

pub by_rest : (x y u : ℤ) → y -ℤ x ≡ u → pos 0 ≤ℤ u → x ≤ℤ y
by_rest x y u e h = omega (arith, ints)

pub below_by_rest : (x y u : ℤ) → y -ℤ x ≡ u → pos 0 <ℤ u → x <ℤ y
below_by_rest x y u e h = omega (arith, ints)

pub rest : (x y : ℤ) → x ≤ℤ y → pos 0 ≤ℤ (y -ℤ x)
rest x y h = omega (arith, ints)

pub mul_le : (x y d : ℤ) → pos 0 ≤ℤ d → x ≤ℤ y → (x *ℤ d) ≤ℤ (y *ℤ d)
mul_le x y d hd h =
    let X = # 0 in let Y = # 1 in let D = # 2 in
    by_rest (x *ℤ d) (y *ℤ d) ((y -ℤ x) *ℤ d) (ring (x ∷ y ∷ d ∷ []) (Y ⊗ D ⊖ X ⊗ D) ((Y ⊖ X) ⊗ D) tt) (mul_nonneg (y -ℤ x) d (rest x y h) hd)

pub mul_le_left : (x y z : ℤ) → pos 0 ≤ℤ x → y ≤ℤ z → (x *ℤ y) ≤ℤ (x *ℤ z)
mul_le_left x y z h k =
    let X = # 0 in let Y = # 1 in let Z = # 2 in
    by_rest (x *ℤ y) (x *ℤ z) (x *ℤ (z -ℤ y)) (ring (x ∷ y ∷ z ∷ []) (X ⊗ Z ⊖ X ⊗ Y) (X ⊗ (Z ⊖ Y)) tt) (mul_nonneg x (z -ℤ y) h (rest y z k))

pub mul_lt : (x y d : ℤ) → pos 0 <ℤ d → x <ℤ y → (x *ℤ d) <ℤ (y *ℤ d)
mul_lt x y d hd h =
    let X = # 0 in let Y = # 1 in let D = # 2 in
    below_by_rest (x *ℤ d) (y *ℤ d) ((y -ℤ x) *ℤ d) (ring (x ∷ y ∷ d ∷ []) (Y ⊗ D ⊖ X ⊗ D) ((Y ⊖ X) ⊗ D) tt) (mul_pos (y -ℤ x) d (omega (arith, ints)) hd)

pub le_trans_ℤ : (x y z : ℤ) → x ≤ℤ y → y ≤ℤ z → x ≤ℤ z
le_trans_ℤ x y z h k = omega (arith, ints)

pub clash : (x y : ℤ) → x ≤ℤ y → y <ℤ x → ⊥
clash x y h k = omega (arith, ints)

-- ---- squares and products
-- the lesser of two squares has the lesser root
pub root_within : (x y : ℤ) → pos 0 ≤ℤ y → (x *ℤ x) ≤ℤ (y *ℤ y) → x ≤ℤ y
root_within x y h k = by_lt_z y x (λ l. absurd (clash (x *ℤ x) (y *ℤ y) k (squares l))) (λ l. l)
  where
    squares : y <ℤ x → (y *ℤ y) <ℤ (x *ℤ x)
    squares l =
        let X = # 0 in let Y = # 1 in
        below_by_rest (y *ℤ y) (x *ℤ x) ((x -ℤ y) *ℤ (x +ℤ y)) (ring (x ∷ y ∷ []) (X ⊗ X ⊖ Y ⊗ Y) ((X ⊖ Y) ⊗ (X ⊕ Y)) tt)
        (mul_pos (x -ℤ y) (x +ℤ y) (omega (arith, ints)) (omega (arith, ints)))

-- a product grows with its factors
pub mul_le_mul : (x y z w : ℤ) → pos 0 ≤ℤ x → pos 0 ≤ℤ w → x ≤ℤ z → y ≤ℤ w → pos 0 ≤ℤ y → (x *ℤ y) ≤ℤ (z *ℤ w)
mul_le_mul x y z w x0 w0 h k y0 =
    le_trans_ℤ (x *ℤ y) (z *ℤ y) (z *ℤ w) (mul_le x z y y0 h) (subst (λ (v : ℤ). v ≤ℤ (z *ℤ w)) (*ℤ_comm y z)
    (subst (λ (v : ℤ). (y *ℤ z) ≤ℤ v) (*ℤ_comm w z) (mul_le y w z (omega (arith, ints)) k)))
