-- Two times before the closest approach: what is soon at one of them is soon at the nearer one.
use Rattle.std.proofs.Common.{List, [], ◌∷◌, ◌≡◌, refl, sym, subst, ◌∙◌, arith, ℤ, pos, ◌+ℤ◌, ◌*ℤ◌, ◌-ℤ◌, neg_ℤ, ◌≤ℤ◌, ◌<ℤ◌}
use Rattle.std.proofs.lemmas.Int.{ints, by_lt_z}
use Rattle.daa_fixed.proofs.Ring.{mul_nonneg, square_nonneg, ring, Poly, #, lit, ⊝, ◌⊕◌, ◌⊖◌, ◌⊗◌}
use Rattle.daa_fixed.proofs.Integers.{mul_le, mul_le_mul, mul_pos, cancel_le, rest, by_rest, by_sum, le_trans_ℤ, root_within, sum_nonneg}

-- y (y - c) ≤ k holds all the way down to 0
shrink : (x y c k : ℤ) → pos 0 ≤ℤ x → x ≤ℤ y → pos 0 ≤ℤ k → (y *ℤ (y -ℤ c)) ≤ℤ k → (x *ℤ (x -ℤ c)) ≤ℤ k
shrink x y c k x0 xy k0 h = by_lt_z c x
    (λ l. le_trans_ℤ (x *ℤ (x -ℤ c)) (y *ℤ (y -ℤ c)) k (both l) h)
    (λ l. le_trans_ℤ (x *ℤ (x -ℤ c)) (pos 0) k (minus l) k0)
  where
    minus : x ≤ℤ c → (x *ℤ (x -ℤ c)) ≤ℤ pos 0
    minus l =
        let X = # 0 in let C = # 1 in
        by_rest (x *ℤ (x -ℤ c)) (pos 0) (x *ℤ (c -ℤ x)) (ring (x ∷ c ∷ []) (lit (pos 0) ⊖ X ⊗ (X ⊖ C)) (X ⊗ (C ⊖ X)) tt) (mul_nonneg x (c -ℤ x) x0 (rest x c l))

    both : c <ℤ x → (x *ℤ (x -ℤ c)) ≤ℤ (y *ℤ (y -ℤ c))
    both l =
        let X = # 0 in let Y = # 1 in let C = # 2 in
        by_sum (x *ℤ (x -ℤ c)) (y *ℤ (y -ℤ c)) ((y -ℤ x) *ℤ (x -ℤ c)) (y *ℤ (y -ℤ x))
        (ring (x ∷ y ∷ c ∷ []) (Y ⊗ (Y ⊖ C) ⊖ X ⊗ (X ⊖ C)) ((Y ⊖ X) ⊗ (X ⊖ C) ⊕ Y ⊗ (Y ⊖ X)) tt)
        (mul_nonneg (y -ℤ x) (x -ℤ c) (rest x y xy) (omega (arith, ints)))
        (mul_nonneg y (y -ℤ x) (le_trans_ℤ (pos 0) x y x0 xy) (rest x y xy))

abbrev A : Poly
A = # 0

abbrev X : Poly
X = # 1

abbrev R : Poly
R = # 2

abbrev T : Poly
T = # 3

abbrev D : Poly
D = # 4

abbrev E : Poly
E = # 5

abbrev P : Poly
P = # 6

abbrev Q : Poly
Q = # 7

abbrev U : Poly
U = # 8

abbrev W : Poly
W = # 9

-- Two times with the denominators d and e, place and velocity times d and e: a is v.v and x is s x v at the leg's beginning,
-- p and q are the squares of the distance at the two times, u and w the dot products with v; r is the distance, t the seconds.
module _ (a x r t d e p q u w : ℤ) (a1 : pos 0 <ℤ a) (d1 : pos 0 <ℤ d) (e1 : pos 0 <ℤ e)
    (first : a *ℤ p ≡ u *ℤ u +ℤ (d *ℤ x) *ℤ (d *ℤ x)) (second : a *ℤ q ≡ w *ℤ w +ℤ (e *ℤ x) *ℤ (e *ℤ x))
    (nearing : u <ℤ pos 0) (nearing' : w <ℤ pos 0)
    (nearer : ((q -ℤ (r *ℤ e) *ℤ (r *ℤ e)) *ℤ (d *ℤ d)) ≤ℤ ((p -ℤ (r *ℤ d) *ℤ (r *ℤ d)) *ℤ (e *ℤ e))) where
  abbrev ρ : List ℤ
  ρ = a ∷ x ∷ r ∷ t ∷ d ∷ e ∷ p ∷ q ∷ u ∷ w ∷ []

  -- the nearer one is later
  nearer_is_later : (neg_ℤ w *ℤ d) ≤ℤ (neg_ℤ u *ℤ e)
  nearer_is_later = root_within (neg_ℤ w *ℤ d) (neg_ℤ u *ℤ e) (mul_nonneg (neg_ℤ u) e (omega (arith, ints)) (omega (arith, ints)))
      (by_rest _ _ _
      (ring ρ ((⊝ U ⊗ E) ⊗ (⊝ U ⊗ E) ⊖ (⊝ W ⊗ D) ⊗ (⊝ W ⊗ D)) ((U ⊗ U ⊕ (D ⊗ X) ⊗ (D ⊗ X)) ⊗ (E ⊗ E) ⊖ (W ⊗ W ⊕ (E ⊗ X) ⊗ (E ⊗ X)) ⊗ (D ⊗ D)) tt
      ∙ sym (λ i. first i *ℤ (e *ℤ e) -ℤ second i *ℤ (d *ℤ d))
      ∙ ring ρ ((A ⊗ P) ⊗ (E ⊗ E) ⊖ (A ⊗ Q) ⊗ (D ⊗ D)) (A ⊗ ((P ⊖ (R ⊗ D) ⊗ (R ⊗ D)) ⊗ (E ⊗ E) ⊖ (Q ⊖ (R ⊗ E) ⊗ (R ⊗ E)) ⊗ (D ⊗ D))) tt)
      (mul_nonneg a _ (omega (arith, ints)) (rest _ _ nearer)))

  -- modified tau is still at most t
  pub tau_still_soon : pos 0 ≤ℤ (r *ℤ r *ℤ a -ℤ x *ℤ x) → (p +ℤ t *ℤ d *ℤ u) ≤ℤ ((r *ℤ d) *ℤ (r *ℤ d)) → (q +ℤ t *ℤ e *ℤ w) ≤ℤ ((r *ℤ e) *ℤ (r *ℤ e))
  tau_still_soon room soon = by_rest _ _ _ refl
      (cancel_le (a *ℤ (d *ℤ d)) _ (mul_pos a (d *ℤ d) a1 (mul_pos d d d1 d1))
      (subst (λ (z : ℤ). pos 0 ≤ℤ z)
      (ring ρ ((D ⊗ D) ⊗ (E ⊗ E) ⊗ (R ⊗ R ⊗ A ⊖ X ⊗ X) ⊖ (⊝ W ⊗ D) ⊗ (⊝ W ⊗ D ⊖ T ⊗ A ⊗ D ⊗ E)) ((A ⊗ ((R ⊗ E) ⊗ (R ⊗ E)) ⊖ (W ⊗ W ⊕ (E ⊗ X) ⊗ (E ⊗ X)) ⊖ A ⊗ (T ⊗ E ⊗ W)) ⊗ (D ⊗ D)) tt
      ∙ sym (λ i. (a *ℤ ((r *ℤ e) *ℤ (r *ℤ e)) -ℤ second i -ℤ a *ℤ (t *ℤ e *ℤ w)) *ℤ (d *ℤ d))
      ∙ ring ρ ((A ⊗ ((R ⊗ E) ⊗ (R ⊗ E)) ⊖ A ⊗ Q ⊖ A ⊗ (T ⊗ E ⊗ W)) ⊗ (D ⊗ D)) (A ⊗ (D ⊗ D) ⊗ ((R ⊗ E) ⊗ (R ⊗ E) ⊖ (Q ⊕ T ⊗ E ⊗ W))) tt)
      (rest _ _ small)))
    where
      before : (neg_ℤ u *ℤ e *ℤ (neg_ℤ u *ℤ e -ℤ t *ℤ a *ℤ d *ℤ e)) ≤ℤ ((d *ℤ d) *ℤ (e *ℤ e) *ℤ (r *ℤ r *ℤ a -ℤ x *ℤ x))
      before = by_rest _ _ _
          (ring ρ ((D ⊗ D) ⊗ (E ⊗ E) ⊗ (R ⊗ R ⊗ A ⊖ X ⊗ X) ⊖ (⊝ U ⊗ E) ⊗ (⊝ U ⊗ E ⊖ T ⊗ A ⊗ D ⊗ E)) ((A ⊗ ((R ⊗ D) ⊗ (R ⊗ D)) ⊖ (U ⊗ U ⊕ (D ⊗ X) ⊗ (D ⊗ X)) ⊖ A ⊗ (T ⊗ D ⊗ U)) ⊗ (E ⊗ E)) tt
          ∙ sym (λ i. (a *ℤ ((r *ℤ d) *ℤ (r *ℤ d)) -ℤ first i -ℤ a *ℤ (t *ℤ d *ℤ u)) *ℤ (e *ℤ e))
          ∙ ring ρ ((A ⊗ ((R ⊗ D) ⊗ (R ⊗ D)) ⊖ A ⊗ P ⊖ A ⊗ (T ⊗ D ⊗ U)) ⊗ (E ⊗ E)) (A ⊗ (E ⊗ E) ⊗ ((R ⊗ D) ⊗ (R ⊗ D) ⊖ (P ⊕ T ⊗ D ⊗ U))) tt)
          (mul_nonneg (a *ℤ (e *ℤ e)) _ (mul_nonneg a (e *ℤ e) (omega (arith, ints)) (square_nonneg e)) (rest _ _ soon))

      small : (neg_ℤ w *ℤ d *ℤ (neg_ℤ w *ℤ d -ℤ t *ℤ a *ℤ d *ℤ e)) ≤ℤ ((d *ℤ d) *ℤ (e *ℤ e) *ℤ (r *ℤ r *ℤ a -ℤ x *ℤ x))
      small = shrink (neg_ℤ w *ℤ d) (neg_ℤ u *ℤ e) (t *ℤ a *ℤ d *ℤ e) _
          (mul_nonneg (neg_ℤ w) d (omega (arith, ints)) (omega (arith, ints))) nearer_is_later
          (mul_nonneg _ _ (mul_nonneg (d *ℤ d) (e *ℤ e) (square_nonneg d) (square_nonneg e)) room) before

  -- so is the time to the closest approach
  pub closest_still_soon : neg_ℤ u ≤ℤ (t *ℤ d *ℤ a) → neg_ℤ w ≤ℤ (t *ℤ e *ℤ a)
  closest_still_soon soon = by_rest _ _ _ refl
      (cancel_le d _ d1
      (subst (λ (z : ℤ). pos 0 ≤ℤ z)
      (ring ρ (T ⊗ D ⊗ A ⊗ E ⊖ ⊝ W ⊗ D) (D ⊗ (T ⊗ E ⊗ A ⊖ ⊝ W)) tt)
      (rest _ _ (le_trans_ℤ (neg_ℤ w *ℤ d) (neg_ℤ u *ℤ e) (t *ℤ d *ℤ a *ℤ e) nearer_is_later (mul_le (neg_ℤ u) (t *ℤ d *ℤ a) e (omega (arith, ints)) soon)))))

  -- where the distance still falls t seconds after the nearer one, it is then at most r, if it is so t seconds after the other:
  -- p' and q' are the squares of the distance then, u' and w' the dot products
  module _ (p' q' u' w' : ℤ) (third : a *ℤ p' ≡ u' *ℤ u' +ℤ (d *ℤ x) *ℤ (d *ℤ x)) (fourth : a *ℤ q' ≡ w' *ℤ w' +ℤ (e *ℤ x) *ℤ (e *ℤ x))
      (gains : u' ≡ u +ℤ t *ℤ d *ℤ a) (gains' : w' ≡ w +ℤ t *ℤ e *ℤ a) (falling : w' <ℤ pos 0) where
    abbrev σ : List ℤ
    σ = a ∷ x ∷ r ∷ t ∷ d ∷ e ∷ p' ∷ q' ∷ u' ∷ w' ∷ []

    still_later : (neg_ℤ w' *ℤ d) ≤ℤ (neg_ℤ u' *ℤ e)
    still_later = by_rest _ _ _
        ((λ i. neg_ℤ (gains i) *ℤ e -ℤ neg_ℤ (gains' i) *ℤ d)
        ∙ ring ρ (⊝ (U ⊕ T ⊗ D ⊗ A) ⊗ E ⊖ ⊝ (W ⊕ T ⊗ E ⊗ A) ⊗ D) (⊝ U ⊗ E ⊖ ⊝ W ⊗ D) tt)
        (rest _ _ nearer_is_later)

    not_past : pos 0 ≤ℤ (neg_ℤ w' *ℤ d)
    not_past = mul_nonneg (neg_ℤ w') d (omega (arith, ints)) (omega (arith, ints))

    squares : ((neg_ℤ w' *ℤ d) *ℤ (neg_ℤ w' *ℤ d)) ≤ℤ ((neg_ℤ u' *ℤ e) *ℤ (neg_ℤ u' *ℤ e))
    squares = mul_le_mul _ _ _ _ not_past (le_trans_ℤ (pos 0) (neg_ℤ w' *ℤ d) (neg_ℤ u' *ℤ e) not_past still_later) still_later still_later not_past

    pub later_still_near : p' ≤ℤ ((r *ℤ d) *ℤ (r *ℤ d)) → q' ≤ℤ ((r *ℤ e) *ℤ (r *ℤ e))
    later_still_near near = by_rest _ _ _ refl
        (cancel_le (a *ℤ (d *ℤ d)) _ (mul_pos a (d *ℤ d) a1 (mul_pos d d d1 d1))
        (subst (λ (z : ℤ). pos 0 ≤ℤ z)
        (ring σ (A ⊗ (E ⊗ E) ⊗ ((R ⊗ D) ⊗ (R ⊗ D) ⊖ P) ⊕ ((⊝ U ⊗ E) ⊗ (⊝ U ⊗ E) ⊖ (⊝ W ⊗ D) ⊗ (⊝ W ⊗ D))) ((A ⊗ ((R ⊗ D) ⊗ (R ⊗ D)) ⊖ A ⊗ P) ⊗ (E ⊗ E) ⊕ (U ⊗ U ⊗ (E ⊗ E) ⊖ W ⊗ W ⊗ (D ⊗ D))) tt
        ∙ (λ i. (a *ℤ ((r *ℤ d) *ℤ (r *ℤ d)) -ℤ third i) *ℤ (e *ℤ e) +ℤ (u' *ℤ u' *ℤ (e *ℤ e) -ℤ w' *ℤ w' *ℤ (d *ℤ d)))
        ∙ ring σ ((A ⊗ ((R ⊗ D) ⊗ (R ⊗ D)) ⊖ (U ⊗ U ⊕ (D ⊗ X) ⊗ (D ⊗ X))) ⊗ (E ⊗ E) ⊕ (U ⊗ U ⊗ (E ⊗ E) ⊖ W ⊗ W ⊗ (D ⊗ D))) ((A ⊗ ((R ⊗ E) ⊗ (R ⊗ E)) ⊖ (W ⊗ W ⊕ (E ⊗ X) ⊗ (E ⊗ X))) ⊗ (D ⊗ D)) tt
        ∙ sym (λ i. (a *ℤ ((r *ℤ e) *ℤ (r *ℤ e)) -ℤ fourth i) *ℤ (d *ℤ d))
        ∙ ring σ ((A ⊗ ((R ⊗ E) ⊗ (R ⊗ E)) ⊖ A ⊗ Q) ⊗ (D ⊗ D)) (A ⊗ (D ⊗ D) ⊗ ((R ⊗ E) ⊗ (R ⊗ E) ⊖ Q)) tt)
        (sum_nonneg _ _ (mul_nonneg (a *ℤ (e *ℤ e)) _ (mul_nonneg a (e *ℤ e) (omega (arith, ints)) (square_nonneg e)) (rest _ _ near)) (rest _ _ squares))))
