-- How far something is, from how far it is later.
use Rattle.std.proofs.Common.{[], ◌∷◌, ◌≡◌, refl, subst, arith, ℤ, pos, ◌+ℤ◌, ◌*ℤ◌, ◌-ℤ◌, neg_ℤ, ◌≤ℤ◌, ◌<ℤ◌}
use Rattle.std.proofs.lemmas.Int.{ints, by_lt_z}
use Rattle.daa_fixed.proofs.Ring.{mul_nonneg, square_nonneg, ring, #, lit, ⊝, ◌⊕◌, ◌⊖◌, ◌⊗◌}
use Rattle.daa_fixed.proofs.Integers.{mul_pos, cancel_le, rest, by_rest, below_by_rest, le_trans_ℤ, clash, root_within, mul_le_mul, sum_nonneg}

six_nonneg : (a b c d e f : ℤ) → pos 0 ≤ℤ a → pos 0 ≤ℤ b → pos 0 ≤ℤ c → pos 0 ≤ℤ d → pos 0 ≤ℤ e → pos 0 ≤ℤ f → pos 0 ≤ℤ (a +ℤ b +ℤ c +ℤ d +ℤ e +ℤ f)
six_nonneg a b c d e f ha hb hc hd he hf = omega (arith, ints)

-- x was moved by s less k w, then n/d at v less w, and is then at most r: it was at most r and k + 1 times the greatest speed
pub begun_within : (x s v w g u k n d r : ℤ) → pos 1 ≤ℤ d → pos 0 ≤ℤ n → n ≤ℤ d → pos 0 ≤ℤ k → pos 0 ≤ℤ (g +ℤ u) → neg_ℤ (k *ℤ g) ≤ℤ s → neg_ℤ g ≤ℤ v → w ≤ℤ u
    → (d *ℤ (x +ℤ s -ℤ k *ℤ w) +ℤ n *ℤ (v -ℤ w)) ≤ℤ (d *ℤ r) → x ≤ℤ (r +ℤ (k +ℤ pos 1) *ℤ (g +ℤ u))
begun_within x s v w g u k n d r d1 n0 nd k0 gu hs hv hw later =
    let X = # 0 in let S = # 1 in let V = # 2 in let W = # 3 in let G = # 4 in let U = # 5 in let K = # 6 in let N = # 7 in let D = # 8 in let R = # 9 in
    let d0 : pos 0 ≤ℤ d = omega (arith, ints) in
    by_rest x (r +ℤ (k +ℤ pos 1) *ℤ (g +ℤ u)) (r +ℤ (k +ℤ pos 1) *ℤ (g +ℤ u) -ℤ x) refl
    (cancel_le d (r +ℤ (k +ℤ pos 1) *ℤ (g +ℤ u) -ℤ x) (omega (arith, ints))
    (subst (λ (z : ℤ). pos 0 ≤ℤ z)
    (ring (x ∷ s ∷ v ∷ w ∷ g ∷ u ∷ k ∷ n ∷ d ∷ r ∷ [])
    ((D ⊗ R ⊖ (D ⊗ (X ⊕ S ⊖ K ⊗ W) ⊕ N ⊗ (V ⊖ W))) ⊕ D ⊗ (S ⊖ ⊝ (K ⊗ G)) ⊕ D ⊗ (K ⊗ (U ⊖ W)) ⊕ N ⊗ (V ⊖ ⊝ G) ⊕ N ⊗ (U ⊖ W) ⊕ (D ⊖ N) ⊗ (G ⊕ U))
    (D ⊗ (R ⊕ (K ⊕ lit (pos 1)) ⊗ (G ⊕ U) ⊖ X))
    tt)
    (six_nonneg _ _ _ _ _ _
    (rest _ _ later) (mul_nonneg d _ d0 (rest _ _ hs)) (mul_nonneg d _ d0 (mul_nonneg k _ k0 (rest _ _ hw)))
    (mul_nonneg n _ n0 (rest _ _ hv)) (mul_nonneg n _ n0 (rest _ _ hw)) (mul_nonneg (d -ℤ n) _ (rest _ _ nd) gu))))

-- what comes near within a time is not far: x is the square of the distance, a the near distance, b the way until then
pub not_far : (a b x z : ℤ) → pos 0 ≤ℤ a → pos 0 ≤ℤ b → pos 0 ≤ℤ z → (x -ℤ a *ℤ a) ≤ℤ z → (z *ℤ z) ≤ℤ (b *ℤ b *ℤ x) → x ≤ℤ ((a +ℤ b) *ℤ (a +ℤ b))
not_far a b x z a0 b0 z0 soon slow = by_lt_z ((a +ℤ b) *ℤ (a +ℤ b)) x
    (λ l.
    let w : ℤ = x -ℤ (a +ℤ b) *ℤ (a +ℤ b) in
    let u : ℤ = x -ℤ a *ℤ a in
    let w1 : pos 0 <ℤ w = omega (arith, ints) in
    let ab = mul_nonneg a b a0 b0 in
    let bb = mul_nonneg b b b0 b0 in
    let u0 : pos 0 ≤ℤ u = subst (λ (y : ℤ). pos 0 ≤ℤ y) (split a b x) (more w (a *ℤ b) (b *ℤ b) w1 ab bb) in
    let uu : (u *ℤ u) ≤ℤ (b *ℤ b *ℤ x) = le_trans_ℤ (u *ℤ u) (z *ℤ z) (b *ℤ b *ℤ x) (mul_le_mul u u z z u0 z0 soon soon u0) slow in
    absurd (clash (u *ℤ u) (b *ℤ b *ℤ x) uu
    (below_by_rest (b *ℤ b *ℤ x) (u *ℤ u) _ (gap a b x)
    (large (b *ℤ b *ℤ (pos 3 *ℤ (a *ℤ a) +ℤ pos 2 *ℤ (a *ℤ b))) (w *ℤ (pos 4 *ℤ (a *ℤ b) +ℤ b *ℤ b)) (w *ℤ w)
    (mul_nonneg (b *ℤ b) _ bb (two (a *ℤ a) (a *ℤ b) (mul_nonneg a a a0 a0) ab))
    (mul_nonneg w _ (omega (arith, ints)) (four (a *ℤ b) (b *ℤ b) ab bb))
    (mul_pos w w w1 w1)))))
    (λ l. l)
  where
    more : (w p q : ℤ) → pos 0 <ℤ w → pos 0 ≤ℤ p → pos 0 ≤ℤ q → pos 0 ≤ℤ (w +ℤ (pos 2 *ℤ p +ℤ q))
    more w p q h k l = omega (arith, ints)

    two : (p q : ℤ) → pos 0 ≤ℤ p → pos 0 ≤ℤ q → pos 0 ≤ℤ (pos 3 *ℤ p +ℤ pos 2 *ℤ q)
    two p q h k = omega (arith, ints)

    four : (p q : ℤ) → pos 0 ≤ℤ p → pos 0 ≤ℤ q → pos 0 ≤ℤ (pos 4 *ℤ p +ℤ q)
    four p q h k = omega (arith, ints)

    large : (p q r : ℤ) → pos 0 ≤ℤ p → pos 0 ≤ℤ q → pos 0 <ℤ r → pos 0 <ℤ (p +ℤ q +ℤ r)
    large p q r h k l = omega (arith, ints)

    split : (a b x : ℤ) → (x -ℤ (a +ℤ b) *ℤ (a +ℤ b)) +ℤ (pos 2 *ℤ (a *ℤ b) +ℤ b *ℤ b) ≡ x -ℤ a *ℤ a
    split a b x =
        let A = # 0 in let B = # 1 in let X = # 2 in
        ring (a ∷ b ∷ x ∷ []) ((X ⊖ (A ⊕ B) ⊗ (A ⊕ B)) ⊕ (lit (pos 2) ⊗ (A ⊗ B) ⊕ B ⊗ B)) (X ⊖ A ⊗ A) tt

    gap : (a b x : ℤ) → (x -ℤ a *ℤ a) *ℤ (x -ℤ a *ℤ a) -ℤ b *ℤ b *ℤ x
        ≡ b *ℤ b *ℤ (pos 3 *ℤ (a *ℤ a) +ℤ pos 2 *ℤ (a *ℤ b)) +ℤ (x -ℤ (a +ℤ b) *ℤ (a +ℤ b)) *ℤ
        (pos 4 *ℤ (a *ℤ b) +ℤ b *ℤ b) +ℤ (x -ℤ (a +ℤ b) *ℤ (a +ℤ b)) *ℤ (x -ℤ (a +ℤ b) *ℤ (a +ℤ b))
    gap a b x =
        let A = # 0 in let B = # 1 in let X = # 2 in
        let W = X ⊖ (A ⊕ B) ⊗ (A ⊕ B) in
        ring (a ∷ b ∷ x ∷ [])
        ((X ⊖ A ⊗ A) ⊗ (X ⊖ A ⊗ A) ⊖ B ⊗ B ⊗ X)
        (B ⊗ B ⊗ (lit (pos 3) ⊗ (A ⊗ A) ⊕ lit (pos 2) ⊗ (A ⊗ B)) ⊕ W ⊗ (lit (pos 4) ⊗ (A ⊗ B) ⊕ B ⊗ B) ⊕ W ⊗ W)
        tt

-- the difference of two vectors is at most as long as both together
pub apart_within : (a b c d p q : ℤ) → pos 0 ≤ℤ p → pos 0 ≤ℤ q → (a *ℤ a +ℤ b *ℤ b) ≤ℤ (p *ℤ p) → (c *ℤ c +ℤ d *ℤ d) ≤ℤ (q *ℤ q)
    → ((a -ℤ c) *ℤ (a -ℤ c) +ℤ (b -ℤ d) *ℤ (b -ℤ d)) ≤ℤ ((p +ℤ q) *ℤ (p +ℤ q))
apart_within a b c d p q p0 q0 h k =
    let A = # 0 in let B = # 1 in let C = # 2 in let D = # 3 in let P = # 4 in let Q = # 5 in
    let both : ((a *ℤ a +ℤ b *ℤ b) *ℤ (c *ℤ c +ℤ d *ℤ d)) ≤ℤ ((p *ℤ p) *ℤ (q *ℤ q)) =
    mul_le_mul (a *ℤ a +ℤ b *ℤ b) (c *ℤ c +ℤ d *ℤ d) (p *ℤ p) (q *ℤ q) (sum_nonneg _ _ (square_nonneg a)
    (square_nonneg b)) (square_nonneg q) h k (sum_nonneg _ _ (square_nonneg c) (square_nonneg d)) in
    let inner : (neg_ℤ (a *ℤ c +ℤ b *ℤ d) *ℤ neg_ℤ (a *ℤ c +ℤ b *ℤ d)) ≤ℤ ((p *ℤ q) *ℤ (p *ℤ q)) =
    by_rest _ _ _
    (ring (a ∷ b ∷ c ∷ d ∷ p ∷ q ∷ []) ((P ⊗ Q) ⊗ (P ⊗ Q) ⊖ ⊝ (A ⊗ C ⊕ B ⊗ D) ⊗ ⊝ (A ⊗ C ⊕ B ⊗ D)) (((P ⊗ P) ⊗ (Q ⊗ Q) ⊖ (A ⊗ A ⊕ B ⊗ B) ⊗ (C ⊗ C ⊕ D ⊗ D)) ⊕ (A ⊗ D ⊖ B ⊗ C) ⊗ (A ⊗ D ⊖ B ⊗ C)) tt)
    (sum_nonneg _ _ (rest _ _ both) (square_nonneg (a *ℤ d -ℤ b *ℤ c))) in
    let turn : neg_ℤ (a *ℤ c +ℤ b *ℤ d) ≤ℤ (p *ℤ q) = root_within _ _ (mul_nonneg p q p0 q0) inner in
    by_rest _ _ _
    (ring (a ∷ b ∷ c ∷ d ∷ p ∷ q ∷ [])
    ((P ⊕ Q) ⊗ (P ⊕ Q) ⊖ ((A ⊖ C) ⊗ (A ⊖ C) ⊕ (B ⊖ D) ⊗ (B ⊖ D)))
    ((P ⊗ P ⊖ (A ⊗ A ⊕ B ⊗ B)) ⊕ (Q ⊗ Q ⊖ (C ⊗ C ⊕ D ⊗ D)) ⊕ (lit (pos 2) ⊗ (P ⊗ Q ⊖ ⊝ (A ⊗ C ⊕ B ⊗ D))))
    tt)
    (three _ _ _ (rest _ _ h) (rest _ _ k) (rest _ _ turn))
  where
    three : (x y z : ℤ) → pos 0 ≤ℤ x → pos 0 ≤ℤ y → pos 0 ≤ℤ z → pos 0 ≤ℤ (x +ℤ y +ℤ pos 2 *ℤ z)
    three x y z h k l = omega (arith, ints)
