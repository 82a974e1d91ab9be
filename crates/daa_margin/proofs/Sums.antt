-- Sums of two vectors, by the squares of their lengths.
use Rattle.std.proofs.Common.{[], ◌∷◌, ◌≡◌, subst, arith, ℤ, pos, ◌+ℤ◌, ◌*ℤ◌, ◌-ℤ◌, ◌≤ℤ◌}
use Rattle.std.proofs.lemmas.Int.{ints}
use Rattle.daa_fixed.proofs.Ring.{mul_nonneg, square_nonneg, ring, #, lit, ◌⊕◌, ◌⊖◌, ◌⊗◌}
use Rattle.daa_fixed.proofs.Integers.{mul_le_mul, rest, by_rest, root_within, sum_nonneg, le_trans_ℤ}

-- the square of a vector
abbrev pub len : ℤ → ℤ → ℤ
len a b = a *ℤ a +ℤ b *ℤ b

pub len_nonneg : (a b : ℤ) → pos 0 ≤ℤ len a b
len_nonneg a b = sum_nonneg _ _ (square_nonneg a) (square_nonneg b)

-- the dot product is at most the product of the lengths
dot_within : (a b p q k m r : ℤ) → pos 0 ≤ℤ m → pos 0 ≤ℤ r → len a b ≤ℤ k → k ≤ℤ (m *ℤ m) → len p q ≤ℤ (r *ℤ r) → (a *ℤ p +ℤ b *ℤ q) ≤ℤ (m *ℤ r)
dot_within a b p q k m r m0 r0 ab km pq = root_within (a *ℤ p +ℤ b *ℤ q) (m *ℤ r) (mul_nonneg m r m0 r0)
    (let A = # 0 in let B = # 1 in let P = # 2 in let Q = # 3 in let M = # 4 in let R = # 5 in
    by_rest _ _ _
    (ring (a ∷ b ∷ p ∷ q ∷ m ∷ r ∷ [])
    ((M ⊗ R) ⊗ (M ⊗ R) ⊖ (A ⊗ P ⊕ B ⊗ Q) ⊗ (A ⊗ P ⊕ B ⊗ Q))
    ((A ⊗ Q ⊖ B ⊗ P) ⊗ (A ⊗ Q ⊖ B ⊗ P) ⊕ ((M ⊗ M) ⊗ (R ⊗ R) ⊖ (A ⊗ A ⊕ B ⊗ B) ⊗ (P ⊗ P ⊕ Q ⊗ Q)))
    tt)
    (sum_nonneg _ _ (square_nonneg (a *ℤ q -ℤ b *ℤ p))
    (rest _ _ (mul_le_mul (len a b) (len p q) (m *ℤ m) (r *ℤ r) (len_nonneg a b) (square_nonneg r)
    (le_trans_ℤ (len a b) k (m *ℤ m) ab km) pq (len_nonneg p q)))))

pub add_up : (a b p q k m r : ℤ) → pos 0 ≤ℤ m → pos 0 ≤ℤ r → len a b ≤ℤ k → k ≤ℤ (m *ℤ m) → len p q ≤ℤ (r *ℤ r)
    → len (a +ℤ p) (b +ℤ q) ≤ℤ (k +ℤ (pos 2 *ℤ (m *ℤ r) +ℤ r *ℤ r))
add_up a b p q k m r m0 r0 ab km pq =
    let A = # 0 in let B = # 1 in let P = # 2 in let Q = # 3 in let M = # 4 in let R = # 5 in let K = # 6 in
    by_rest _ _ _
    (ring (a ∷ b ∷ p ∷ q ∷ m ∷ r ∷ k ∷ [])
    ((K ⊕ (lit (pos 2) ⊗ (M ⊗ R) ⊕ R ⊗ R)) ⊖ ((A ⊕ P) ⊗ (A ⊕ P) ⊕ (B ⊕ Q) ⊗ (B ⊕ Q)))
    ((K ⊖ (A ⊗ A ⊕ B ⊗ B)) ⊕ ((R ⊗ R ⊖ (P ⊗ P ⊕ Q ⊗ Q)) ⊕ lit (pos 2) ⊗ (M ⊗ R ⊖ (A ⊗ P ⊕ B ⊗ Q))))
    tt)
    (sum_nonneg _ _ (rest _ _ ab)
    (sum_nonneg _ _ (rest _ _ pq)
    (mul_nonneg (pos 2) _ (omega (arith, ints)) (rest _ _ (dot_within a b p q k m r m0 r0 ab km pq)))))

-- lengths add up, where each has a root
pub sums : (a b p q m r : ℤ) → pos 0 ≤ℤ m → pos 0 ≤ℤ r → len a b ≤ℤ (m *ℤ m) → len p q ≤ℤ (r *ℤ r) → len (a +ℤ p) (b +ℤ q) ≤ℤ ((m +ℤ r) *ℤ (m +ℤ r))
sums a b p q m r m0 r0 ab pq =
    let M = # 0 in let R = # 1 in
    subst (λ (z : ℤ). len (a +ℤ p) (b +ℤ q) ≤ℤ z)
    (ring (m ∷ r ∷ []) (M ⊗ M ⊕ (lit (pos 2) ⊗ (M ⊗ R) ⊕ R ⊗ R)) ((M ⊕ R) ⊗ (M ⊕ R)) tt)
    (add_up a b p q (m *ℤ m) m r m0 r0 ab (self (m *ℤ m)) pq)
  where
    self : (z : ℤ) → z ≤ℤ z
    self z = omega (arith, ints)

-- c times a vector
pub scaled_len : (c a b r : ℤ) → len a b ≤ℤ (r *ℤ r) → len (c *ℤ a) (c *ℤ b) ≤ℤ ((c *ℤ r) *ℤ (c *ℤ r))
scaled_len c a b r h =
    let C = # 0 in let A = # 1 in let B = # 2 in let R = # 3 in
    by_rest _ _ _
    (ring (c ∷ a ∷ b ∷ r ∷ []) ((C ⊗ R) ⊗ (C ⊗ R) ⊖ ((C ⊗ A) ⊗ (C ⊗ A) ⊕ (C ⊗ B) ⊗ (C ⊗ B))) ((C ⊗ C) ⊗ (R ⊗ R ⊖ (A ⊗ A ⊕ B ⊗ B))) tt)
    (mul_nonneg (c *ℤ c) _ (square_nonneg c) (rest _ _ h))

-- the error of d places and n velocities
both : (x y u w x' y' u' w' n d place speed : ℤ) → pos 0 ≤ℤ n → pos 0 ≤ℤ d → pos 0 ≤ℤ place → pos 0 ≤ℤ speed
    → len (x' -ℤ x) (y' -ℤ y) ≤ℤ (place *ℤ place) → len (u' -ℤ u) (w' -ℤ w) ≤ℤ (speed *ℤ speed)
    → len (d *ℤ (x' -ℤ x) +ℤ n *ℤ (u' -ℤ u)) (d *ℤ (y' -ℤ y) +ℤ n *ℤ (w' -ℤ w)) ≤ℤ ((d *ℤ place +ℤ n *ℤ speed) *ℤ (d *ℤ place +ℤ n *ℤ speed))
both x y u w x' y' u' w' n d place speed n0 d0 place0 speed0 here there = sums _ _ _ _ (d *ℤ place) (n *ℤ speed)
    (mul_nonneg d place d0 place0) (mul_nonneg n speed n0 speed0)
    (scaled_len d (x' -ℤ x) (y' -ℤ y) place here) (scaled_len n (u' -ℤ u) (w' -ℤ w) speed there)

-- what is true plus its error is what is reported
whole : (d x x' n u u' : ℤ) → (d *ℤ x +ℤ n *ℤ u) +ℤ (d *ℤ (x' -ℤ x) +ℤ n *ℤ (u' -ℤ u)) ≡ d *ℤ x' +ℤ n *ℤ u'
whole d x x' n u u' =
    let D = # 0 in let X = # 1 in let X2 = # 2 in let N = # 3 in let U = # 4 in let U2 = # 5 in
    ring (d ∷ x ∷ x' ∷ n ∷ u ∷ u' ∷ []) ((D ⊗ X ⊕ N ⊗ U) ⊕ (D ⊗ (X2 ⊖ X) ⊕ N ⊗ (U2 ⊖ U))) (D ⊗ X2 ⊕ N ⊗ U2) tt

pub entry : (x y u w x' y' u' w' n d near place speed : ℤ) → pos 0 ≤ℤ n → pos 0 ≤ℤ d → pos 0 ≤ℤ near → pos 0 ≤ℤ place → pos 0 ≤ℤ speed
    → len (x' -ℤ x) (y' -ℤ y) ≤ℤ (place *ℤ place) → len (u' -ℤ u) (w' -ℤ w) ≤ℤ (speed *ℤ speed)
    → len (d *ℤ x +ℤ n *ℤ u) (d *ℤ y +ℤ n *ℤ w) ≤ℤ ((d *ℤ near) *ℤ (d *ℤ near))
    → len (d *ℤ x' +ℤ n *ℤ u') (d *ℤ y' +ℤ n *ℤ w')
    ≤ℤ ((d *ℤ near +ℤ (d *ℤ place +ℤ n *ℤ speed)) *ℤ (d *ℤ near +ℤ (d *ℤ place +ℤ n *ℤ speed)))
entry x y u w x' y' u' w' n d near place speed n0 d0 near0 place0 speed0 here there true_near =
    subst (λ (z : ℤ). len z (d *ℤ y' +ℤ n *ℤ w') ≤ℤ most) (whole d x x' n u u')
    (subst (λ (z : ℤ). len ((d *ℤ x +ℤ n *ℤ u) +ℤ (d *ℤ (x' -ℤ x) +ℤ n *ℤ (u' -ℤ u))) z ≤ℤ most) (whole d y y' n w w')
    (sums _ _ _ _ (d *ℤ near) (d *ℤ place +ℤ n *ℤ speed) (mul_nonneg d near d0 near0)
    (sum_nonneg _ _ (mul_nonneg d place d0 place0) (mul_nonneg n speed n0 speed0)) true_near
    (both x y u w x' y' u' w' n d place speed n0 d0 place0 speed0 here there)))
  where
    most : ℤ
    most = (d *ℤ near +ℤ (d *ℤ place +ℤ n *ℤ speed)) *ℤ (d *ℤ near +ℤ (d *ℤ place +ℤ n *ℤ speed))

-- the square of the true velocity, by that of the reported one
speed_squared : (u w u' w' speed most : ℤ) → pos 0 ≤ℤ most → pos 0 ≤ℤ speed → len (u' -ℤ u) (w' -ℤ w) ≤ℤ (speed *ℤ speed) → len u' w' ≤ℤ (most *ℤ most)
    → len u w ≤ℤ (len u' w' +ℤ (pos 2 *ℤ (most *ℤ speed) +ℤ speed *ℤ speed))
speed_squared u w u' w' speed most most0 speed0 there large =
    subst (λ (z : ℤ). z ≤ℤ (len u' w' +ℤ (pos 2 *ℤ (most *ℤ speed) +ℤ speed *ℤ speed)))
    (let U = # 0 in let W = # 1 in let U2 = # 2 in let W2 = # 3 in
    ring (u ∷ w ∷ u' ∷ w' ∷ []) ((U2 ⊕ (U ⊖ U2)) ⊗ (U2 ⊕ (U ⊖ U2)) ⊕ (W2 ⊕ (W ⊖ W2)) ⊗ (W2 ⊕ (W ⊖ W2))) (U ⊗ U ⊕ W ⊗ W) tt)
    (add_up u' w' (u -ℤ u') (w -ℤ w') (len u' w') most speed most0 speed0 (self (len u' w')) large
    (subst (λ (z : ℤ). z ≤ℤ (speed *ℤ speed))
    (let U = # 0 in let W = # 1 in let U2 = # 2 in let W2 = # 3 in
    ring (u ∷ w ∷ u' ∷ w' ∷ []) ((U2 ⊖ U) ⊗ (U2 ⊖ U) ⊕ (W2 ⊖ W) ⊗ (W2 ⊖ W)) ((U ⊖ U2) ⊗ (U ⊖ U2) ⊕ (W ⊖ W2) ⊗ (W ⊖ W2)) tt)
    there))
  where
    self : (z : ℤ) → z ≤ℤ z
    self z = omega (arith, ints)

module _ (x y u w x' y' u' w' t near place speed most reach : ℤ) (t0 : pos 0 ≤ℤ t) (place0 : pos 0 ≤ℤ place) (speed0 : pos 0 ≤ℤ speed) (most0 : pos 0 ≤ℤ most)
    (reach0 : pos 0 ≤ℤ reach) (here : len (x' -ℤ x) (y' -ℤ y) ≤ℤ (place *ℤ place)) (there : len (u' -ℤ u) (w' -ℤ w) ≤ℤ (speed *ℤ speed))
    (large : len u' w' ≤ℤ (most *ℤ most)) where
  abbrev fourfold : ℤ
  fourfold = pos 4 *ℤ (near *ℤ near) +ℤ (t *ℤ t) *ℤ (len u' w' +ℤ (pos 2 *ℤ (most *ℤ speed) +ℤ speed *ℤ speed))

  abbrev error : ℤ
  error = pos 2 *ℤ place +ℤ t *ℤ speed

  -- twice the true place in the middle
  true_middle : ((x *ℤ x +ℤ y *ℤ y) +ℤ t *ℤ (x *ℤ u +ℤ y *ℤ w)) ≤ℤ (near *ℤ near) → len (pos 2 *ℤ x +ℤ t *ℤ u) (pos 2 *ℤ y +ℤ t *ℤ w) ≤ℤ fourfold
  true_middle soon =
      let X = # 0 in let Y = # 1 in let U = # 2 in let W = # 3 in let T = # 4 in let N = # 5 in let L = # 6 in
      by_rest _ _ _
      (ring (x ∷ y ∷ u ∷ w ∷ t ∷ near ∷ (len u' w' +ℤ (pos 2 *ℤ (most *ℤ speed) +ℤ speed *ℤ speed)) ∷ [])
      ((lit (pos 4) ⊗ (N ⊗ N) ⊕ (T ⊗ T) ⊗ L) ⊖ ((lit (pos 2) ⊗ X ⊕ T ⊗ U) ⊗ (lit (pos 2) ⊗ X ⊕ T ⊗ U) ⊕ (lit (pos 2) ⊗ Y ⊕ T ⊗ W) ⊗ (lit (pos 2) ⊗ Y ⊕ T ⊗ W)))
      (lit (pos 4) ⊗ (N ⊗ N ⊖ ((X ⊗ X ⊕ Y ⊗ Y) ⊕ T ⊗ (X ⊗ U ⊕ Y ⊗ W))) ⊕ (T ⊗ T) ⊗ (L ⊖ (U ⊗ U ⊕ W ⊗ W)))
      tt)
      (sum_nonneg _ _ (mul_nonneg (pos 4) _ (omega (arith, ints)) (rest _ _ soon))
      (mul_nonneg (t *ℤ t) _ (square_nonneg t) (rest _ _ (speed_squared u w u' w' speed most most0 speed0 there large))))

  pub modified_tau : fourfold ≤ℤ (reach *ℤ reach) → ((x *ℤ x +ℤ y *ℤ y) +ℤ t *ℤ (x *ℤ u +ℤ y *ℤ w)) ≤ℤ (near *ℤ near)
      → len (pos 2 *ℤ x' +ℤ t *ℤ u') (pos 2 *ℤ y' +ℤ t *ℤ w') ≤ℤ (fourfold +ℤ (pos 2 *ℤ (reach *ℤ error) +ℤ error *ℤ error))
  modified_tau root soon =
      subst (λ (z : ℤ). len z (pos 2 *ℤ y' +ℤ t *ℤ w') ≤ℤ (fourfold +ℤ (pos 2 *ℤ (reach *ℤ error) +ℤ error *ℤ error))) (whole (pos 2) x x' t u u')
      (subst (λ (z : ℤ). len ((pos 2 *ℤ x +ℤ t *ℤ u) +ℤ (pos 2 *ℤ (x' -ℤ x) +ℤ t *ℤ (u' -ℤ u))) z ≤ℤ (fourfold +ℤ (pos 2 *ℤ (reach *ℤ error) +ℤ error *ℤ error)))
      (whole (pos 2) y y' t w w')
      (add_up _ _ _ _ fourfold reach error reach0
      (sum_nonneg _ _ (mul_nonneg (pos 2) place (omega (arith, ints)) place0) (mul_nonneg t speed t0 speed0)) (true_middle soon) root
      (both x y u w x' y' u' w' t (pos 2) place speed t0 (omega (arith, ints)) place0 speed0 here there)))
