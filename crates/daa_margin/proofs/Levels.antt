-- Whether a height that changes evenly may be 0 at some time between two: at the first, or by then on the other side.
use Rattle.std.proofs.Common.{[], ◌∷◌, ◌≡◌, ◌↔◌, ◌⊎◌, inl, inr, ⊎_elim, sym, ap, subst, ◌∙◌, arith, ℤ, pos, ◌+ℤ◌, ◌*ℤ◌, ◌-ℤ◌, neg_ℤ, ◌≤ℤ◌, ◌<ℤ◌, unsigned_abs}
use Rattle.std.proofs.lemmas.Int.{ints, by_lt_z}
use Rattle.daa_fixed.proofs.Ring.{mul_nonneg, ring, #, lit, ⊝, ◌⊕◌, ◌⊖◌, ◌⊗◌}
use Rattle.daa_fixed.proofs.Integers.{mul_pos, cancel_le, clash, rest, by_rest, sum_nonneg}
use Rattle.daa_margin.specs.Inside.Between.{HoldsBetween}

-- d times the height at n/d, of what begins at h and rises at w
abbrev at : (h w n d : ℤ) → ℤ
at h w n d = d *ℤ h +ℤ n *ℤ w

-- what is above 0 at first and not above in between, is not above at last
falls_on : (c m n d k e r s : ℤ) → pos 1 ≤ℤ d → pos 1 ≤ℤ e → pos 1 ≤ℤ s → pos 0 <ℤ at c m n d → at c m k e ≤ℤ pos 0
    → (n *ℤ e) ≤ℤ (k *ℤ d) → (k *ℤ s) ≤ℤ (r *ℤ e) → at c m r s ≤ℤ pos 0
falls_on c m n d k e r s d1 e1 s1 first low from upto = under _ (cancel_le e _ (positive e1)
    (subst (λ (z : ℤ). pos 0 ≤ℤ z)
    (let C = # 0 in let M = # 1 in let K = # 2 in let E = # 3 in let R = # 4 in let S = # 5 in
    ring (c ∷ m ∷ k ∷ e ∷ r ∷ s ∷ []) ((R ⊗ E ⊖ K ⊗ S) ⊗ ⊝ M ⊕ S ⊗ ⊝ (E ⊗ C ⊕ K ⊗ M)) (E ⊗ ⊝ (S ⊗ C ⊕ R ⊗ M)) tt)
    (sum_nonneg _ _ (mul_nonneg _ _ (rest _ _ upto) sinks) (mul_nonneg s _ (natural s1) (turned _ low)))))
  where
    positive : {x : ℤ} → pos 1 ≤ℤ x → pos 0 <ℤ x
    positive h = omega (arith, ints)

    natural : {x : ℤ} → pos 1 ≤ℤ x → pos 0 ≤ℤ x
    natural h = omega (arith, ints)

    turned : (x : ℤ) → x ≤ℤ pos 0 → pos 0 ≤ℤ neg_ℤ x
    turned x h = omega (arith, ints)

    under : (x : ℤ) → pos 0 ≤ℤ neg_ℤ x → x ≤ℤ pos 0
    under x h = omega (arith, ints)

    sinks : pos 0 ≤ℤ neg_ℤ m
    sinks = by_lt_z m (pos 0) (λ l. below m l)
        (λ l. absurd (clash (pos 0) (neg_ℤ (e *ℤ at c m n d))
        (by_rest _ _ (d *ℤ neg_ℤ (at c m k e) +ℤ (k *ℤ d -ℤ n *ℤ e) *ℤ m)
        (let C = # 0 in let M = # 1 in let N = # 2 in let D = # 3 in let K = # 4 in let E = # 5 in
        ring (c ∷ m ∷ n ∷ d ∷ k ∷ e ∷ []) (⊝ (E ⊗ (D ⊗ C ⊕ N ⊗ M)) ⊖ lit (pos 0)) (D ⊗ ⊝ (E ⊗ C ⊕ K ⊗ M) ⊕ (K ⊗ D ⊖ N ⊗ E) ⊗ M) tt)
        (sum_nonneg _ _ (mul_nonneg d _ (natural d1) (turned _ low)) (mul_nonneg _ m (rest _ _ from) l)))
        (minus _ (mul_pos e _ (positive e1) first))))
      where
        below : (x : ℤ) → x <ℤ pos 0 → pos 0 ≤ℤ neg_ℤ x
        below x h = omega (arith, ints)

        minus : (x : ℤ) → pos 0 <ℤ x → neg_ℤ x <ℤ pos 0
        minus x h = omega (arith, ints)

-- at most e in size
size_in : (z e : ℤ) → z ≤ℤ e → pos 0 ≤ℤ (z +ℤ e) → pos (unsigned_abs z) ≤ℤ e
size_in z e h k = omega (arith, ints)

size_down : (z e : ℤ) → pos (unsigned_abs z) ≤ℤ e → z ≤ℤ e
size_down z e h = omega (arith, ints)

size_up : (z e : ℤ) → pos (unsigned_abs z) ≤ℤ e → pos 0 ≤ℤ (z +ℤ e)
size_up z e h = omega (arith, ints)

-- the height at h and w, and its bound at a and b
abbrev pub IsLevel : (h w a b n d : ℤ) → Type 0
IsLevel h w a b n d = pos (unsigned_abs (at h w n d)) ≤ℤ at a b n d

less_at : (h w a b n d : ℤ) → at h w n d -ℤ at a b n d ≡ at (h -ℤ a) (w -ℤ b) n d
less_at h w a b n d =
    let H = # 0 in let W = # 1 in let A = # 2 in let B = # 3 in let N = # 4 in let D = # 5 in
    ring (h ∷ w ∷ a ∷ b ∷ n ∷ d ∷ []) ((D ⊗ H ⊕ N ⊗ W) ⊖ (D ⊗ A ⊕ N ⊗ B)) (D ⊗ (H ⊖ A) ⊕ N ⊗ (W ⊖ B)) tt

module _ (n d m e : ℤ) (n0 : pos 0 ≤ℤ n) (d1 : pos 1 ≤ℤ d) (m0 : pos 0 ≤ℤ m) (e1 : pos 1 ≤ℤ e) (order : (n *ℤ e) ≤ℤ (m *ℤ d)) where
  natural : {x : ℤ} → pos 1 ≤ℤ x → pos 0 ≤ℤ x
  natural h = omega (arith, ints)

  module _ (h w a b : ℤ) (a0 : pos 0 ≤ℤ a) (b0 : pos 0 ≤ℤ b) where
    first : ℤ
    first = at (h -ℤ a) (w -ℤ b) n d

    -- from above, the bound is reached where the two weigh each other up
    reached : pos 0 <ℤ at (h -ℤ a) (w -ℤ b) n d → at (h -ℤ a) (w -ℤ b) m e ≤ℤ pos 0 → HoldsBetween (IsLevel h w a b) n d m e
    reached above low = record {
      num = q *ℤ n +ℤ p *ℤ m;
      den = q *ℤ d +ℤ p *ℤ e;
      fraction = some _ _ (mul_nonneg q d q0 (natural d1)) (mul_pos p e above (positive e1));
      from = by_rest _ _ _
          (let P = # 0 in let Q = # 1 in let N = # 2 in let D = # 3 in let M = # 4 in let E = # 5 in
          ring (p ∷ q ∷ n ∷ d ∷ m ∷ e ∷ []) ((Q ⊗ N ⊕ P ⊗ M) ⊗ D ⊖ N ⊗ (Q ⊗ D ⊕ P ⊗ E)) (P ⊗ (M ⊗ D ⊖ N ⊗ E)) tt)
          (mul_nonneg p _ p0 (rest _ _ order));
      upto = by_rest _ _ _
          (let P = # 0 in let Q = # 1 in let N = # 2 in let D = # 3 in let M = # 4 in let E = # 5 in
          ring (p ∷ q ∷ n ∷ d ∷ m ∷ e ∷ []) (M ⊗ (Q ⊗ D ⊕ P ⊗ E) ⊖ (Q ⊗ N ⊕ P ⊗ M) ⊗ E) (Q ⊗ (M ⊗ D ⊖ N ⊗ E)) tt)
          (mul_nonneg q _ q0 (rest _ _ order));
      holds = same _ _ there
          (subst (λ (z : ℤ). pos 0 ≤ℤ z)
          (let P = # 0 in let Q = # 1 in let N = # 2 in let D = # 3 in let M = # 4 in let E = # 5 in let A = # 6 in let B = # 7 in
          ring (p ∷ q ∷ n ∷ d ∷ m ∷ e ∷ a ∷ b ∷ []) (Q ⊗ (D ⊗ A ⊕ N ⊗ B) ⊕ P ⊗ (E ⊗ A ⊕ M ⊗ B)) ((Q ⊗ D ⊕ P ⊗ E) ⊗ A ⊕ (Q ⊗ N ⊕ P ⊗ M) ⊗ B) tt)
          (sum_nonneg _ _
          (mul_nonneg q _ q0 (sum_nonneg _ _ (mul_nonneg d a (natural d1) a0) (mul_nonneg n b n0 b0)))
          (mul_nonneg p _ p0 (sum_nonneg _ _ (mul_nonneg e a (natural e1) a0) (mul_nonneg m b m0 b0)))));
    }
      where
        p : ℤ
        p = at (h -ℤ a) (w -ℤ b) n d

        q : ℤ
        q = neg_ℤ (at (h -ℤ a) (w -ℤ b) m e)

        p0 : pos 0 ≤ℤ p
        p0 = omega (arith, ints, above)

        q0 : pos 0 ≤ℤ q
        q0 = omega (arith, ints, low)

        positive : {x : ℤ} → pos 1 ≤ℤ x → pos 0 <ℤ x
        positive h = omega (arith, ints)

        some : (x y : ℤ) → pos 0 ≤ℤ x → pos 0 <ℤ y → pos 1 ≤ℤ (x +ℤ y)
        some x y h k = omega (arith, ints)

        same : (x y : ℤ) → x -ℤ y ≡ pos 0 → pos 0 ≤ℤ y → pos (unsigned_abs x) ≤ℤ y
        same x y h k = omega (arith, ints)

        there : at h w (q *ℤ n +ℤ p *ℤ m) (q *ℤ d +ℤ p *ℤ e) -ℤ at a b (q *ℤ n +ℤ p *ℤ m) (q *ℤ d +ℤ p *ℤ e) ≡ pos 0
        there =
            let H = # 0 in let W = # 1 in let A = # 2 in let B = # 3 in let N = # 4 in let D = # 5 in let M = # 6 in let E = # 7 in
            let P = D ⊗ (H ⊖ A) ⊕ N ⊗ (W ⊖ B) in let Q = ⊝ (E ⊗ (H ⊖ A) ⊕ M ⊗ (W ⊖ B)) in
            ring (h ∷ w ∷ a ∷ b ∷ n ∷ d ∷ m ∷ e ∷ [])
            (((Q ⊗ D ⊕ P ⊗ E) ⊗ H ⊕ (Q ⊗ N ⊕ P ⊗ M) ⊗ W) ⊖ ((Q ⊗ D ⊕ P ⊗ E) ⊗ A ⊕ (Q ⊗ N ⊕ P ⊗ M) ⊗ B))
            (lit (pos 0))
            tt

    -- what is not below at first: at its bound then, or no more above at last
    pub from_above : pos 0 ≤ℤ at h w n d → at h w m e ≤ℤ at a b m e → HoldsBetween (IsLevel h w a b) n d m e
    from_above up low = by_lt_z (at a b n d) (at h w n d)
        (λ above. reached (subst (λ (z : ℤ). pos 0 <ℤ z) (less_at h w a b n d) (gap _ _ above)) (subst (λ (z : ℤ). z ≤ℤ pos 0) (less_at h w a b m e) (no_gap _ _ low)))
        (λ near. record {
          num = n;
          den = d;
          fraction = d1;
          from = self _;
          upto = order;
          holds = size_in _ _ near (sum_nonneg _ _ up (sum_nonneg _ _ (mul_nonneg d a (natural d1) a0) (mul_nonneg n b n0 b0)));
        })
      where
        gap : (x y : ℤ) → x <ℤ y → pos 0 <ℤ (y -ℤ x)
        gap x y h = omega (arith, ints)

        no_gap : (x y : ℤ) → x ≤ℤ y → (x -ℤ y) ≤ℤ pos 0
        no_gap x y h = omega (arith, ints)

        self : (z : ℤ) → z ≤ℤ z
        self z = omega (arith, ints)

    pub comes_down : HoldsBetween (IsLevel h w a b) n d m e → pos 0 ≤ℤ at h w n d → IsLevel h w a b n d ⊎ (at h w m e ≤ℤ at a b m e)
    comes_down l up = by_lt_z (at a b n d) (at h w n d)
        (λ above. inr (low _ _ (subst (λ (z : ℤ). z ≤ℤ pos 0) (sym (less_at h w a b m e))
        (falls_on (h -ℤ a) (w -ℤ b) n d l.num l.den m e d1 l.fraction e1
        (subst (λ (z : ℤ). pos 0 <ℤ z) (less_at h w a b n d) (gap _ _ above))
        (subst (λ (z : ℤ). z ≤ℤ pos 0) (less_at h w a b l.num l.den) (no_gap _ _ (size_down _ _ l.holds))) l.from l.upto))))
        (λ near. inl (size_in _ _ near (sum_nonneg _ _ up (sum_nonneg _ _ (mul_nonneg d a (natural d1) a0) (mul_nonneg n b n0 b0)))))
      where
        gap : (x y : ℤ) → x <ℤ y → pos 0 <ℤ (y -ℤ x)
        gap x y h = omega (arith, ints)

        no_gap : (x y : ℤ) → x ≤ℤ y → (x -ℤ y) ≤ℤ pos 0
        no_gap x y h = omega (arith, ints)

        low : (x y : ℤ) → (x -ℤ y) ≤ℤ pos 0 → x ≤ℤ y
        low x y h = omega (arith, ints)

  -- the mirror image
  mirror : (h w n d : ℤ) → at (neg_ℤ h) (neg_ℤ w) n d ≡ neg_ℤ (at h w n d)
  mirror h w n d = let H = # 0 in let W = # 1 in let N = # 2 in let D = # 3 in ring (h ∷ w ∷ n ∷ d ∷ []) (D ⊗ ⊝ H ⊕ N ⊗ ⊝ W) (⊝ (D ⊗ H ⊕ N ⊗ W)) tt

  mirror_size : (h w n d : ℤ) → unsigned_abs (at (neg_ℤ h) (neg_ℤ w) n d) ≡ unsigned_abs (at h w n d)
  mirror_size h w n d = ap unsigned_abs (mirror h w n d) ∙ abs-neg (at h w n d)
    where
      abs-neg : (z : ℤ) → unsigned_abs (neg_ℤ z) ≡ unsigned_abs z
      abs-neg z = omega (arith, ints)

  level_mirror : (h w a b n d : ℤ) → IsLevel h w a b n d → IsLevel (neg_ℤ h) (neg_ℤ w) a b n d
  level_mirror h w a b n d l = subst (λ k. pos k ≤ℤ at a b n d) (sym (mirror_size h w n d)) l

  mirror_level : (h w a b n d : ℤ) → IsLevel (neg_ℤ h) (neg_ℤ w) a b n d → IsLevel h w a b n d
  mirror_level h w a b n d l = subst (λ k. pos k ≤ℤ at a b n d) (mirror_size h w n d) l

  module _ (h w a b : ℤ) (a0 : pos 0 ≤ℤ a) (b0 : pos 0 ≤ℤ b) where
    pub from_below : at h w n d ≤ℤ pos 0 → pos 0 ≤ℤ (at h w m e +ℤ at a b m e) → HoldsBetween (IsLevel h w a b) n d m e
    from_below down high =
        let l = from_above (neg_ℤ h) (neg_ℤ w) a b a0 b0
        (subst (λ (z : ℤ). pos 0 ≤ℤ z) (sym (mirror h w n d)) (turned _ down))
        (subst (λ (z : ℤ). z ≤ℤ at a b m e) (sym (mirror h w m e)) (over _ _ high)) in
        record { num = l.num; den = l.den; fraction = l.fraction; from = l.from; upto = l.upto; holds = mirror_level h w a b l.num l.den l.holds }
      where
        turned : (x : ℤ) → x ≤ℤ pos 0 → pos 0 ≤ℤ neg_ℤ x
        turned x h = omega (arith, ints)

        over : (x y : ℤ) → pos 0 ≤ℤ (x +ℤ y) → neg_ℤ x ≤ℤ y
        over x y h = omega (arith, ints)

    pub comes_up : HoldsBetween (IsLevel h w a b) n d m e → at h w n d ≤ℤ pos 0 → IsLevel h w a b n d ⊎ (pos 0 ≤ℤ (at h w m e +ℤ at a b m e))
    comes_up l down = ⊎_elim (λ k. inl (mirror_level h w a b n d k)) (λ k. inr (under _ _ (subst (λ (z : ℤ). z ≤ℤ at a b m e) (mirror h w m e) k)))
        (comes_down (neg_ℤ h) (neg_ℤ w) a b a0 b0
        (record { num = l.num; den = l.den; fraction = l.fraction; from = l.from; upto = l.upto; holds = level_mirror h w a b l.num l.den l.holds })
        (subst (λ (z : ℤ). pos 0 ≤ℤ z) (sym (mirror h w n d)) (turned _ down)))
      where
        turned : (x : ℤ) → x ≤ℤ pos 0 → pos 0 ≤ℤ neg_ℤ x
        turned x h = omega (arith, ints)

        under : (x y : ℤ) → neg_ℤ x ≤ℤ y → pos 0 ≤ℤ (x +ℤ y)
        under x y h = omega (arith, ints)
