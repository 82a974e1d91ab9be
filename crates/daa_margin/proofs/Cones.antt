-- Whether a quadratic of the time is at most 0 at some time between two: at one of them, or where it is least. It is a n^2 + 2 b n d
-- + c d^2 at n/d, times d^2. Its slope at m/e tells what it gains on the way to n/d.
use Rattle.std.proofs.Common.{[], ◌∷◌, ◌≡◌, ◌↔◌, ◌⊎◌, inl, inr, ⊎_elim, sym, subst, ◌∙◌, arith, ℤ, pos, ◌+ℤ◌, ◌*ℤ◌, ◌-ℤ◌, neg_ℤ, ◌≤ℤ◌, ◌<ℤ◌}
use Rattle.std.proofs.lemmas.Int.{ints, by_lt_z}
use Rattle.daa_fixed.proofs.Ring.{mul_nonneg, square_nonneg, ring, #, lit, ⊝, ◌⊕◌, ◌⊖◌, ◌⊗◌}
use Rattle.daa_fixed.proofs.Integers.{mul_pos, cancel_le, cancel_lt, clash, rest, by_rest, sum_nonneg}
use Rattle.daa_fixed.specs.Flat.{dot_of, cross_of, square_of}
use Rattle.daa_fixed.specs.declared.Leg.{Leg}
use Rattle.daa_taumod.specs.declared.Volume.{Volume}
use Rattle.daa_taumod.specs.Volume.{place_at}
use Rattle.daa_margin.specs.declared.ErrorBounds.{ErrorBounds}
use Rattle.daa_margin.specs.MayViolate.{MayBeNear}
use Rattle.daa_margin.specs.Inside.Between.{HoldsBetween}
use Rattle.daa_margin.specs.Inside.Cone.{radius_at, slope_of, drift, CanComeNear, DipsBetween}

turned : (x : ℤ) → x ≤ℤ pos 0 → pos 0 ≤ℤ neg_ℤ x
turned x h = omega (arith, ints)

less : (x y : ℤ) → x <ℤ y → x ≤ℤ y
less x y h = omega (arith, ints)

-- x is a k^2 + 2 d (k s): where x is below 0 and a is not, s is below 0; where x is above 0 and a is not, s is above 0
falls_first : (x a k d s : ℤ) → x ≡ a *ℤ (k *ℤ k) +ℤ pos 2 *ℤ (d *ℤ (k *ℤ s)) → pos 0 ≤ℤ a → pos 0 ≤ℤ k → pos 0 ≤ℤ d → x <ℤ pos 0 → s <ℤ pos 0
falls_first x a k d s e a0 k0 d0 h = by_lt_z s (pos 0) (λ l. l)
    (λ l. absurd (clash (pos 0) x
    (subst (λ (z : ℤ). pos 0 ≤ℤ z) (sym e)
    (sum_nonneg _ _ (mul_nonneg a _ a0 (square_nonneg k)) (mul_nonneg (pos 2) _ (omega (arith, ints)) (mul_nonneg d _ d0 (mul_nonneg k s k0 l))))) h))

rises_last : (x a k d s : ℤ) → x ≡ a *ℤ (k *ℤ k) +ℤ pos 2 *ℤ (d *ℤ (k *ℤ s)) → a ≤ℤ pos 0 → pos 0 ≤ℤ k → pos 0 ≤ℤ d → pos 0 <ℤ x → pos 0 <ℤ s
rises_last x a k d s e a0 k0 d0 h = by_lt_z (pos 0) s (λ l. l)
    (λ l. absurd (clash x (pos 0)
    (by_rest x (pos 0) (neg_ℤ a *ℤ (k *ℤ k) +ℤ pos 2 *ℤ (d *ℤ (k *ℤ neg_ℤ s)))
    ((λ i. pos 0 -ℤ e i)
    ∙ (let A = # 0 in let K = # 1 in let D = # 2 in let S = # 3 in
    ring (a ∷ k ∷ d ∷ s ∷ []) (lit (pos 0) ⊖ (A ⊗ (K ⊗ K) ⊕ lit (pos 2) ⊗ (D ⊗ (K ⊗ S)))) (⊝ A ⊗ (K ⊗ K) ⊕ lit (pos 2) ⊗ (D ⊗ (K ⊗ ⊝ S))) tt))
    (sum_nonneg _ _ (mul_nonneg _ _ (turned a a0) (square_nonneg k))
    (mul_nonneg (pos 2) _ (omega (arith, ints)) (mul_nonneg d _ d0 (mul_nonneg k _ k0 (turned s l)))))) h))

module _ (a b c : ℤ) where
  abbrev pub value : ℤ → ℤ → ℤ
  value n d = a *ℤ n *ℤ n +ℤ pos 2 *ℤ b *ℤ n *ℤ d +ℤ c *ℤ d *ℤ d

  abbrev pub slope : ℤ → ℤ → ℤ
  slope n d = d *ℤ b +ℤ n *ℤ a

  -- what it gains from m/e to n/d
  pub gain : (m e n d : ℤ) → value n d *ℤ (e *ℤ e) -ℤ value m e *ℤ (d *ℤ d)
      ≡ a *ℤ ((n *ℤ e -ℤ m *ℤ d) *ℤ (n *ℤ e -ℤ m *ℤ d)) +ℤ pos 2 *ℤ (d *ℤ ((n *ℤ e -ℤ m *ℤ d) *ℤ slope m e))
  gain m e n d =
      let A = # 0 in let B = # 1 in let C = # 2 in let M = # 3 in let E = # 4 in let N = # 5 in let D = # 6 in
      let W = N ⊗ E ⊖ M ⊗ D in
      ring (a ∷ b ∷ c ∷ m ∷ e ∷ n ∷ d ∷ [])
      ((A ⊗ N ⊗ N ⊕ lit (pos 2) ⊗ B ⊗ N ⊗ D ⊕ C ⊗ D ⊗ D) ⊗ (E ⊗ E) ⊖ (A ⊗ M ⊗ M ⊕ lit (pos 2) ⊗ B ⊗ M ⊗ E ⊕ C ⊗ E ⊗ E) ⊗ (D ⊗ D))
      (A ⊗ (W ⊗ W) ⊕ lit (pos 2) ⊗ (D ⊗ (W ⊗ (E ⊗ B ⊕ M ⊗ A))))
      tt

  -- the same with the way, and the slope at its beginning, turned
  back : (m e n d : ℤ) → value n d *ℤ (e *ℤ e) -ℤ value m e *ℤ (d *ℤ d)
      ≡ a *ℤ ((m *ℤ d -ℤ n *ℤ e) *ℤ (m *ℤ d -ℤ n *ℤ e)) +ℤ pos 2 *ℤ (d *ℤ ((m *ℤ d -ℤ n *ℤ e) *ℤ neg_ℤ (slope m e)))
  back m e n d =
      let A = # 0 in let B = # 1 in let C = # 2 in let M = # 3 in let E = # 4 in let N = # 5 in let D = # 6 in
      let W = M ⊗ D ⊖ N ⊗ E in
      ring (a ∷ b ∷ c ∷ m ∷ e ∷ n ∷ d ∷ [])
      ((A ⊗ N ⊗ N ⊕ lit (pos 2) ⊗ B ⊗ N ⊗ D ⊕ C ⊗ D ⊗ D) ⊗ (E ⊗ E) ⊖ (A ⊗ M ⊗ M ⊕ lit (pos 2) ⊗ B ⊗ M ⊗ E ⊕ C ⊗ E ⊗ E) ⊗ (D ⊗ D))
      (A ⊗ (W ⊗ W) ⊕ lit (pos 2) ⊗ (D ⊗ (W ⊗ ⊝ (E ⊗ B ⊕ M ⊗ A))))
      tt

  -- the value at n/d is at most 0, and that at m/e is above
  pub loses : (m e n d : ℤ) → pos 1 ≤ℤ d → value n d ≤ℤ pos 0 → pos 0 <ℤ value m e → (value n d *ℤ (e *ℤ e) -ℤ value m e *ℤ (d *ℤ d)) <ℤ pos 0
  loses m e n d d1 low high = fewer _ _
      (mul_nonneg _ _ (turned _ low) (square_nonneg e)) (mul_pos _ _ high (mul_pos d d (omega (arith, ints, d1)) (omega (arith, ints, d1))))
      (let V = # 0 in let E = # 1 in ring (value n d ∷ e ∷ []) (⊝ V ⊗ (E ⊗ E)) (⊝ (V ⊗ (E ⊗ E))) tt)
    where
      fewer : (x y : ℤ) {z : ℤ} → pos 0 ≤ℤ z → pos 0 <ℤ y → z ≡ neg_ℤ x → (x -ℤ y) <ℤ pos 0
      fewer x y {z} h k e = omega (arith, ints)

  gains : (m e n d : ℤ) → pos 1 ≤ℤ d → value n d ≤ℤ pos 0 → pos 0 <ℤ value m e → pos 0 <ℤ (value m e *ℤ (d *ℤ d) -ℤ value n d *ℤ (e *ℤ e))
  gains m e n d d1 low high = other (value n d *ℤ (e *ℤ e)) (value m e *ℤ (d *ℤ d)) (loses m e n d d1 low high)
    where
      other : (x y : ℤ) → (x -ℤ y) <ℤ pos 0 → pos 0 <ℤ (y -ℤ x)
      other x y h = omega (arith, ints)

  -- from p/q to r/s, with a time n/d between at which the value is at most 0
  module _ (p q r s : ℤ) (q1 : pos 1 ≤ℤ q) (s1 : pos 1 ≤ℤ s) where
    pub record TurnsBetween : Type 0 where
      pub falls : slope p q <ℤ pos 0
      pub rises : pos 0 <ℤ slope r s
      pub reaches : pos 0 ≤ℤ (b *ℤ b -ℤ a *ℤ c)

    module _ (n d : ℤ) (d1 : pos 1 ≤ℤ d) (from : (p *ℤ d) ≤ℤ (n *ℤ q)) (upto : (n *ℤ s) ≤ℤ (r *ℤ d)) (low : value n d ≤ℤ pos 0)
        (first : pos 0 <ℤ value p q) (last : pos 0 <ℤ value r s) where
      d0 : pos 0 ≤ℤ d
      d0 = omega (arith, ints, d1)

      reaches_low : pos 0 ≤ℤ a → pos 0 ≤ℤ (b *ℤ b -ℤ a *ℤ c)
      reaches_low a0 = cancel_le (d *ℤ d) _ (mul_pos d d (omega (arith, ints, d1)) (omega (arith, ints, d1)))
          (subst (λ (z : ℤ). pos 0 ≤ℤ z)
          (let A = # 0 in let B = # 1 in let C = # 2 in let N = # 3 in let D = # 4 in
          ring (a ∷ b ∷ c ∷ n ∷ d ∷ [])
          ((D ⊗ B ⊕ N ⊗ A) ⊗ (D ⊗ B ⊕ N ⊗ A) ⊕ A ⊗ ⊝ (A ⊗ N ⊗ N ⊕ lit (pos 2) ⊗ B ⊗ N ⊗ D ⊕ C ⊗ D ⊗ D))
          ((D ⊗ D) ⊗ (B ⊗ B ⊖ A ⊗ C))
          tt)
          (sum_nonneg _ _ (square_nonneg (slope n d)) (mul_nonneg a _ a0 (turned _ low))))

      turns_up : pos 0 ≤ℤ a → TurnsBetween
      turns_up a0 = record {
        falls = falls_first _ a (n *ℤ q -ℤ p *ℤ d) d (slope p q) (gain p q n d) a0 (rest _ _ from) d0 (loses p q n d d1 low first);
        rises = above (slope r s) (falls_first _ a (r *ℤ d -ℤ n *ℤ s) d (neg_ℤ (slope r s)) (back r s n d) a0 (rest _ _ upto) d0 (loses r s n d d1 low last));
        reaches = reaches_low a0;
      }
        where
          above : (x : ℤ) → neg_ℤ x <ℤ pos 0 → pos 0 <ℤ x
          above x h = omega (arith, ints)

      never_down : a ≤ℤ pos 0 → ⊥
      never_down a0 = clash (pos 0) (slope n d)
          (less _ _ (rises_last _ a (r *ℤ d -ℤ n *ℤ s) s (slope n d) (gain n d r s) a0 (rest _ _ upto) (omega (arith, ints, s1)) (gains r s n d d1 low last)))
          (below (slope n d) (rises_last _ a (n *ℤ q -ℤ p *ℤ d) q (neg_ℤ (slope n d)) (back n d p q) a0 (rest _ _ from) (omega (arith, ints, q1)) (gains p q n d d1 low first)))
        where
          below : (x : ℤ) → pos 0 <ℤ neg_ℤ x → x <ℤ pos 0
          below x h = omega (arith, ints)

      pub turns : TurnsBetween
      turns = by_lt_z a (pos 0) (λ l. absurd (never_down (less _ _ l))) turns_up

    -- the vertex is at -b/a
    module _ (t : TurnsBetween) (order : (p *ℤ s) ≤ℤ (r *ℤ q)) where
      bends : pos 0 <ℤ a
      bends = cancel_lt (r *ℤ q -ℤ p *ℤ s) a (rest _ _ order)
          (subst (λ (z : ℤ). pos 0 <ℤ z)
          (let A = # 0 in let B = # 1 in let P = # 2 in let Q = # 3 in let R = # 4 in let S = # 5 in
          ring (a ∷ b ∷ p ∷ q ∷ r ∷ s ∷ []) ((S ⊗ B ⊕ R ⊗ A) ⊗ Q ⊕ ⊝ (Q ⊗ B ⊕ P ⊗ A) ⊗ S) ((R ⊗ Q ⊖ P ⊗ S) ⊗ A) tt)
          (more _ _ (mul_pos (slope r s) q t.rises (omega (arith, ints, q1))) (mul_nonneg _ s (turned _ (less _ _ t.falls)) (omega (arith, ints, s1)))))
        where
          more : (x y : ℤ) → pos 0 <ℤ x → pos 0 ≤ℤ y → pos 0 <ℤ (x +ℤ y)
          more x y h k = omega (arith, ints)

      pub vertex : HoldsBetween (λ n d. value n d ≤ℤ pos 0) p q r s
      vertex = record {
        num = neg_ℤ b;
        den = a;
        fraction = omega (arith, ints, bends);
        from = by_rest _ _ _
            (let A = # 0 in let B = # 1 in let P = # 2 in let Q = # 3 in ring (a ∷ b ∷ p ∷ q ∷ []) (⊝ B ⊗ Q ⊖ P ⊗ A) (⊝ (Q ⊗ B ⊕ P ⊗ A)) tt)
            (turned _ (less _ _ t.falls));
        upto = by_rest _ _ _
            (let A = # 0 in let B = # 1 in let R = # 2 in let S = # 3 in ring (a ∷ b ∷ r ∷ s ∷ []) (R ⊗ A ⊖ ⊝ B ⊗ S) (S ⊗ B ⊕ R ⊗ A) tt)
            (less _ _ t.rises);
        holds = by_rest _ _ _
            (let A = # 0 in let B = # 1 in let C = # 2 in
            ring (a ∷ b ∷ c ∷ []) (lit (pos 0) ⊖ (A ⊗ ⊝ B ⊗ ⊝ B ⊕ lit (pos 2) ⊗ B ⊗ ⊝ B ⊗ A ⊕ C ⊗ A ⊗ A)) (A ⊗ (B ⊗ B ⊖ A ⊗ C)) tt)
            (mul_nonneg a _ (less _ _ bends) t.reaches);
      }

  -- a time between the two at which the value is at most 0 and does not grow
  pub record HasNearing (p q n d : ℤ) : Type 0 where
    pub num : ℤ
    pub den : ℤ
    pub fraction : pos 1 ≤ℤ den
    pub from : (p *ℤ den) ≤ℤ (num *ℤ q)
    pub upto : (num *ℤ d) ≤ℤ (n *ℤ den)
    pub low : value num den ≤ℤ pos 0
    pub slows : slope num den ≤ℤ pos 0

  module _ (p q n d : ℤ) (q1 : pos 1 ≤ℤ q) (d1 : pos 1 ≤ℤ d) (order : (p *ℤ d) ≤ℤ (n *ℤ q)) (high : pos 0 <ℤ value p q) (low : value n d ≤ℤ pos 0) where
    at_vertex : pos 0 <ℤ slope n d → pos 0 <ℤ a → HasNearing p q n d
    at_vertex up a1 = record {
      num = neg_ℤ b;
      den = a;
      fraction = omega (arith, ints, a1);
      from = by_rest _ _ _
          (let A = # 0 in let B = # 1 in let P = # 2 in let Q = # 3 in ring (a ∷ b ∷ p ∷ q ∷ []) (⊝ B ⊗ Q ⊖ P ⊗ A) (⊝ (Q ⊗ B ⊕ P ⊗ A)) tt)
          (turned _ (less _ _ (falls_first _ a (n *ℤ q -ℤ p *ℤ d) d (slope p q) (gain p q n d) (less _ _ a1) (rest _ _ order) (omega (arith, ints, d1)) (loses p q n d d1 low high))));
      upto = by_rest _ _ _
          (let A = # 0 in let B = # 1 in let N = # 2 in let D = # 3 in ring (a ∷ b ∷ n ∷ d ∷ []) (N ⊗ A ⊖ ⊝ B ⊗ D) (D ⊗ B ⊕ N ⊗ A) tt)
          (less _ _ up);
      low = by_rest _ _ _
          (let A = # 0 in let B = # 1 in let C = # 2 in
          ring (a ∷ b ∷ c ∷ []) (lit (pos 0) ⊖ (A ⊗ ⊝ B ⊗ ⊝ B ⊕ lit (pos 2) ⊗ B ⊗ ⊝ B ⊗ A ⊕ C ⊗ A ⊗ A)) (A ⊗ (B ⊗ B ⊖ A ⊗ C)) tt)
          (mul_nonneg a _ (less _ _ a1) (reaching (less _ _ a1)));
      slows = by_rest _ _ _
          (let A = # 0 in let B = # 1 in ring (a ∷ b ∷ []) (lit (pos 0) ⊖ (A ⊗ B ⊕ ⊝ B ⊗ A)) (lit (pos 0)) tt)
          (omega (arith, ints));
    }
      where
        reaching : pos 0 ≤ℤ a → pos 0 ≤ℤ (b *ℤ b -ℤ a *ℤ c)
        reaching a0 = cancel_le (d *ℤ d) _ (mul_pos d d (omega (arith, ints, d1)) (omega (arith, ints, d1)))
            (subst (λ (z : ℤ). pos 0 ≤ℤ z)
            (let A = # 0 in let B = # 1 in let C = # 2 in let N = # 3 in let D = # 4 in
            ring (a ∷ b ∷ c ∷ n ∷ d ∷ [])
            ((D ⊗ B ⊕ N ⊗ A) ⊗ (D ⊗ B ⊕ N ⊗ A) ⊕ A ⊗ ⊝ (A ⊗ N ⊗ N ⊕ lit (pos 2) ⊗ B ⊗ N ⊗ D ⊕ C ⊗ D ⊗ D))
            ((D ⊗ D) ⊗ (B ⊗ B ⊖ A ⊗ C))
            tt)
            (sum_nonneg _ _ (square_nonneg (slope n d)) (mul_nonneg a _ a0 (turned _ low))))

    pub nearing : HasNearing p q n d
    nearing = by_lt_z (pos 0) (slope n d)
        (λ up. by_lt_z (pos 0) a (at_vertex up)
        (λ flat. absurd (clash (pos 0) (slope n d) (less _ _ up)
        (below (slope n d) (rises_last _ a (n *ℤ q -ℤ p *ℤ d) q (neg_ℤ (slope n d)) (back n d p q) flat (rest _ _ order) (omega (arith, ints, q1)) (gains p q n d d1 low high))))))
        (λ slow. record { num = n; den = d; fraction = d1; from = order; upto = self _; low = low; slows = slow })
      where
        below : (x : ℤ) → pos 0 <ℤ neg_ℤ x → x <ℤ pos 0
        below x h = omega (arith, ints)

        self : (z : ℤ) → z ≤ℤ z
        self z = omega (arith, ints)

-- ---- of a leg
module _ (leg : Leg) (volume : Volume) (bounds : ErrorBounds) where
  abbrev x : ℤ
  x = leg.place.flat.east

  abbrev y : ℤ
  y = leg.place.flat.north

  abbrev u : ℤ
  u = leg.velocity.flat.east

  abbrev w : ℤ
  w = leg.velocity.flat.north

  abbrev pub qa : ℤ
  qa = (u *ℤ u +ℤ w *ℤ w) -ℤ pos bounds.speed *ℤ pos bounds.speed

  abbrev pub qb : ℤ
  qb = (x *ℤ u +ℤ y *ℤ w) -ℤ pos bounds.speed *ℤ (pos volume.dthr +ℤ pos bounds.place)

  abbrev pub qc : ℤ
  qc = (x *ℤ x +ℤ y *ℤ y) -ℤ (pos volume.dthr +ℤ pos bounds.place) *ℤ (pos volume.dthr +ℤ pos bounds.place)

  -- the square of the distance, less that of the radius
  off : (n d : ℤ) → dot_of (place_at leg n d) (place_at leg n d) -ℤ square_of (radius_at volume bounds n d) ≡ value qa qb qc n d
  off n d =
      let X = # 0 in let Y = # 1 in let U = # 2 in let W = # 3 in let R = # 4 in let P = # 5 in let S = # 6 in let N = # 7 in let D = # 8 in
      ring (x ∷ y ∷ u ∷ w ∷ pos volume.dthr ∷ pos bounds.place ∷ pos bounds.speed ∷ n ∷ d ∷ [])
      (((D ⊗ X ⊕ N ⊗ U) ⊗ (D ⊗ X ⊕ N ⊗ U) ⊕ (D ⊗ Y ⊕ N ⊗ W) ⊗ (D ⊗ Y ⊕ N ⊗ W)) ⊖ (R ⊗ D ⊕ (D ⊗ P ⊕ N ⊗ S)) ⊗ (R ⊗ D ⊕ (D ⊗ P ⊕ N ⊗ S)))
      (((U ⊗ U ⊕ W ⊗ W) ⊖ S ⊗ S) ⊗ N ⊗ N ⊕ lit (pos 2) ⊗ ((X ⊗ U ⊕ Y ⊗ W) ⊖ S ⊗ (R ⊕ P)) ⊗ N ⊗ D ⊕ ((X ⊗ X ⊕ Y ⊗ Y) ⊖ (R ⊕ P) ⊗ (R ⊕ P)) ⊗ D ⊗ D)
      tt

  pub near_is : (n d : ℤ) → MayBeNear leg volume bounds n d ↔ (value qa qb qc n d ≤ℤ pos 0)
  near_is n d = (
    (λ h. subst (λ (z : ℤ). z ≤ℤ pos 0) (off n d) (under h)),
    (λ h. over (subst (λ (z : ℤ). z ≤ℤ pos 0) (sym (off n d)) h)),
  )
    where
      under : {x y : ℤ} → x ≤ℤ y → (x -ℤ y) ≤ℤ pos 0
      under h = omega (arith, ints)

      over : {x y : ℤ} → (x -ℤ y) ≤ℤ pos 0 → x ≤ℤ y
      over h = omega (arith, ints)

  pub slope_is : (n d : ℤ) → slope_of leg volume bounds n d ≡ slope qa qb qc n d
  slope_is n d =
      let X = # 0 in let Y = # 1 in let U = # 2 in let W = # 3 in let R = # 4 in let P = # 5 in let S = # 6 in let N = # 7 in let D = # 8 in
      ring (x ∷ y ∷ u ∷ w ∷ pos volume.dthr ∷ pos bounds.place ∷ pos bounds.speed ∷ n ∷ d ∷ [])
      (((D ⊗ X ⊕ N ⊗ U) ⊗ U ⊕ (D ⊗ Y ⊕ N ⊗ W) ⊗ W) ⊖ S ⊗ (R ⊗ D ⊕ (D ⊗ P ⊕ N ⊗ S)))
      (D ⊗ ((X ⊗ U ⊕ Y ⊗ W) ⊖ S ⊗ (R ⊕ P)) ⊕ N ⊗ ((U ⊗ U ⊕ W ⊗ W) ⊖ S ⊗ S))
      tt

  room_is : dot_of (drift leg volume bounds) (drift leg volume bounds) -ℤ square_of (cross_of leg.place.flat leg.velocity.flat) ≡ qb *ℤ qb -ℤ qa *ℤ qc
  room_is =
      let X = # 0 in let Y = # 1 in let U = # 2 in let W = # 3 in let R = # 4 in let P = # 5 in let S = # 6 in
      let A = (U ⊗ U ⊕ W ⊗ W) ⊖ S ⊗ S in let B = (X ⊗ U ⊕ Y ⊗ W) ⊖ S ⊗ (R ⊕ P) in let C = (X ⊗ X ⊕ Y ⊗ Y) ⊖ (R ⊕ P) ⊗ (R ⊕ P) in
      ring (x ∷ y ∷ u ∷ w ∷ pos volume.dthr ∷ pos bounds.place ∷ pos bounds.speed ∷ [])
      ((((R ⊕ P) ⊗ U ⊖ S ⊗ X) ⊗ ((R ⊕ P) ⊗ U ⊖ S ⊗ X) ⊕ ((R ⊕ P) ⊗ W ⊖ S ⊗ Y) ⊗ ((R ⊕ P) ⊗ W ⊖ S ⊗ Y)) ⊖ (X ⊗ W ⊖ Y ⊗ U) ⊗ (X ⊗ W ⊖ Y ⊗ U))
      (B ⊗ B ⊖ A ⊗ C)
      tt

  -- ---- between two times
  module _ (p q r s : ℤ) (q1 : pos 1 ≤ℤ q) (s1 : pos 1 ≤ℤ s) (order : (p *ℤ s) ≤ℤ (r *ℤ q)) where
    abbrev Somewhere : Type 0
    Somewhere = HoldsBetween (MayBeNear leg volume bounds) p q r s

    abbrev AtEndOrBetween : Type 0
    AtEndOrBetween = MayBeNear leg volume bounds p q ⊎ (MayBeNear leg volume bounds r s ⊎ DipsBetween leg volume bounds p q r s)

    self : (z : ℤ) → z ≤ℤ z
    self z = omega (arith, ints)

    below : {x y : ℤ} → y <ℤ x → pos 0 <ℤ (x -ℤ y)
    below h = omega (arith, ints)

    far : (n d : ℤ) → square_of (radius_at volume bounds n d) <ℤ dot_of (place_at leg n d) (place_at leg n d) → pos 0 <ℤ value qa qb qc n d
    far n d h = subst (λ (z : ℤ). pos 0 <ℤ z) (off n d) (below h)

    found : Somewhere → AtEndOrBetween
    found h = by_lt_z (square_of (radius_at volume bounds p q)) (dot_of (place_at leg p q) (place_at leg p q))
        (λ first. by_lt_z (square_of (radius_at volume bounds r s)) (dot_of (place_at leg r s) (place_at leg r s))
        (λ last.
        let t = turns qa qb qc p q r s q1 s1 h.num h.den h.fraction h.from h.upto ((near_is h.num h.den).0 h.holds) (far p q first) (far r s last) in
        inr (inr (record {
          falls = subst (λ (z : ℤ). z <ℤ pos 0) (sym (slope_is p q)) t.falls;
          rises = subst (λ (z : ℤ). pos 0 <ℤ z) (sym (slope_is r s)) t.rises;
          near = over (subst (λ (z : ℤ). pos 0 ≤ℤ z) (sym room_is) t.reaches);
        })))
        (λ near. inr (inl near)))
        (λ near. inl near)
      where
        over : {x y : ℤ} → pos 0 ≤ℤ (y -ℤ x) → x ≤ℤ y
        over h = omega (arith, ints)

    dip : DipsBetween leg volume bounds p q r s → Somewhere
    dip h =
        let v = vertex qa qb qc p q r s q1 s1 (record {
          falls = subst (λ (z : ℤ). z <ℤ pos 0) (slope_is p q) h.falls;
          rises = subst (λ (z : ℤ). pos 0 <ℤ z) (slope_is r s) h.rises;
          reaches = subst (λ (z : ℤ). pos 0 ≤ℤ z) room_is (rest _ _ h.near);
        }) order in
        record { num = v.num; den = v.den; fraction = v.fraction; from = v.from; upto = v.upto; holds = (near_is v.num v.den).1 v.holds }

    pub near_between_is : AtEndOrBetween ↔ Somewhere
    near_between_is = (
      ⊎_elim (λ near. record { num = p; den = q; fraction = q1; from = self _; upto = order; holds = near })
          (⊎_elim (λ near. record { num = r; den = s; fraction = s1; from = order; upto = self _; holds = near }) dip),
      found,
    )
