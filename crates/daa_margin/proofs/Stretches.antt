-- When a condition that is linear in the time holds over a leg, and two such conditions together: as one stretch.
use Rattle.std.proofs.Common.{[], ◌∷◌, ◌≡◌, ◌↔◌, ◌⊎◌, inl, inr, ⊎_elim, refl, sym, subst, arith, ℕ, ◌≤◌, ℤ, pos, ◌+ℤ◌, ◌*ℤ◌, ◌-ℤ◌, neg_ℤ, ◌≤ℤ◌, ◌<ℤ◌}
use Rattle.std.proofs.lemmas.Int.{ints, by_lt_z}
use Rattle.daa_fixed.proofs.Ring.{mul_nonneg, ring, #, lit, ⊝, ◌⊕◌, ◌⊖◌, ◌⊗◌}
use Rattle.daa_fixed.proofs.Integers.{mul_le, mul_pos, cancel_le, clash, le_trans_ℤ, rest, by_rest, sum_nonneg}
use Rattle.daa_fixed.specs.declared.Point.{Point}
use Rattle.daa_fixed.specs.Point.{IsBetween, IsBefore, IsInOrder}
use Rattle.daa_fixed.specs.Time.{IsTime, HoldsNever}
use Rattle.daa_taumod.specs.declared.Volume.{Volume}
use Rattle.daa_vwindow.specs.Window.{IsWindow}
use Rattle.daa_margin.specs.declared.ErrorBounds.{ErrorBounds}
use Rattle.daa_margin.specs.Inside.Heights.{IsReached, IsKept, IsLastKept, IsInReach, gap_of}

less : (x y : ℤ) → x <ℤ y → x ≤ℤ y
less x y h = omega (arith, ints)

self : (x : ℤ) → x ≤ℤ x
self x = omega (arith, ints)

turned : (x : ℤ) → x ≤ℤ pos 0 → pos 0 ≤ℤ neg_ℤ x
turned x h = omega (arith, ints)

-- n/d is not after a/b, nor a/b after c/e
pub trans : (n d a b c e : ℤ) → pos 0 ≤ℤ d → pos 1 ≤ℤ b → pos 0 ≤ℤ e → (n *ℤ b) ≤ℤ (a *ℤ d) → (a *ℤ e) ≤ℤ (c *ℤ b) → (n *ℤ e) ≤ℤ (c *ℤ d)
trans n d a b c e d0 b1 e0 h k = over _ _ (cancel_le b _ (positive b1)
    (subst (λ (z : ℤ). pos 0 ≤ℤ z)
    (let N = # 0 in let D = # 1 in let A = # 2 in let B = # 3 in let C = # 4 in let E = # 5 in
    ring (n ∷ d ∷ a ∷ b ∷ c ∷ e ∷ []) (D ⊗ (C ⊗ B ⊖ A ⊗ E) ⊕ E ⊗ (A ⊗ D ⊖ N ⊗ B)) (B ⊗ (C ⊗ D ⊖ N ⊗ E)) tt)
    (sum_nonneg _ _ (mul_nonneg d _ d0 (rest _ _ k)) (mul_nonneg e _ e0 (rest _ _ h)))))
  where
    positive : {x : ℤ} → pos 1 ≤ℤ x → pos 0 <ℤ x
    positive h = omega (arith, ints)

    over : (x y : ℤ) → pos 0 ≤ℤ (y -ℤ x) → x ≤ℤ y
    over x y h = omega (arith, ints)

natural : {x : ℤ} → pos 1 ≤ℤ x → pos 0 ≤ℤ x
natural h = omega (arith, ints)

sec0 : (secs : ℕ) → pos 0 ≤ℤ pos secs
sec0 secs = omega (arith, ints)

-- n/d is at most secs, and secs times a pace at most `most`: so is n/d times it
paced : (secs : ℕ) (n d pace most : ℤ) → IsTime secs n d → pos 0 ≤ℤ most → (pos secs *ℤ pace) ≤ℤ most → (n *ℤ pace) ≤ℤ (most *ℤ d)
paced secs n d pace most t m0 h = by_lt_z pace (pos 0)
    (λ down. le_trans_ℤ _ (pos 0) _ (under _ (subst (λ (z : ℤ). pos 0 ≤ℤ z)
    (let N = # 0 in let P = # 1 in ring (n ∷ pace ∷ []) (N ⊗ ⊝ P) (⊝ (N ⊗ P)) tt)
    (mul_nonneg n _ t.from (turned _ (less _ _ down))))) (mul_nonneg most d m0 (natural t.fraction)))
    (λ up. le_trans_ℤ _ _ _ (mul_le n (pos secs *ℤ d) pace up t.upto)
    (subst (λ (z : ℤ). z ≤ℤ (most *ℤ d))
    (let S = # 0 in let P = # 1 in let D = # 2 in ring (pos secs ∷ pace ∷ d ∷ []) (S ⊗ P ⊗ D) (S ⊗ D ⊗ P) tt)
    (mul_le (pos secs *ℤ pace) most d (natural t.fraction) h)))
  where
    under : (x : ℤ) → pos 0 ≤ℤ neg_ℤ x → x ≤ℤ pos 0
    under x h = omega (arith, ints)

-- a pace at which something positive is made good within secs is positive
pub moves : (secs : ℕ) (gap pace : ℤ) → pos 1 ≤ℤ gap → gap ≤ℤ (pos secs *ℤ pace) → pos 1 ≤ℤ pace
moves secs gap pace g1 h = by_lt_z (pos 0) pace (λ up. one _ up)
    (λ down. absurd (clash (pos secs *ℤ pace) (pos 0)
    (under _ (subst (λ (z : ℤ). pos 0 ≤ℤ z)
    (let S = # 0 in let P = # 1 in ring (pos secs ∷ pace ∷ []) (S ⊗ ⊝ P) (⊝ (S ⊗ P)) tt)
    (mul_nonneg (pos secs) _ (sec0 secs) (turned _ down)))) (above _ _ g1 h)))
  where
    one : (x : ℤ) → pos 0 <ℤ x → pos 1 ≤ℤ x
    one x h = omega (arith, ints)

    under : (x : ℤ) → pos 0 ≤ℤ neg_ℤ x → x ≤ℤ pos 0
    under x h = omega (arith, ints)

    above : (x y : ℤ) → pos 1 ≤ℤ x → x ≤ℤ y → pos 0 <ℤ y
    above x y h k = omega (arith, ints)

-- what is not used up within secs moves
pub moves_past : (secs : ℕ) (room pace : ℤ) → pos 0 ≤ℤ room → room <ℤ (pos secs *ℤ pace) → pos 1 ≤ℤ pace
moves_past secs room pace r0 h = moves secs (room +ℤ pos 1) pace (more _ r0) (next _ _ h)
  where
    more : (x : ℤ) → pos 0 ≤ℤ x → pos 1 ≤ℤ (x +ℤ pos 1)
    more x h = omega (arith, ints)

    next : (x y : ℤ) → x <ℤ y → (x +ℤ pos 1) ≤ℤ y
    next x y h = omega (arith, ints)

-- ---- what is kept
module _ (secs : ℕ) (room pace : ℤ) (r0 : pos 0 ≤ℤ room) (q : Point) where
  -- to the leg's end
  pub kept_all : (pos secs *ℤ pace) ≤ℤ room → q.num ≡ pos secs → q.den ≡ pos 1 → IsLastKept secs room pace q
  kept_all h qn qd = record {
    time = rw (qn, qd) (record { fraction = self _; from = sec0 secs; upto = omega (arith, ints) });
    exact = λ n d t. (
      (λ k. rw (qn, qd) (omega (arith, ints, t.upto))),
      (λ k. paced secs n d pace room t r0 h),
    );
  }

  -- until it is used up
  pub kept_until : room <ℤ (pos secs *ℤ pace) → q.num ≡ room → q.den ≡ pace → IsLastKept secs room pace q
  kept_until h qn qd = record {
    time = rw (qn, qd) (record { fraction = pace1; from = r0; upto = less _ _ h });
    exact = λ n d t. rw (qn, qd) ((λ k. k), (λ k. k));
  }
    where
      pace1 : pos 1 ≤ℤ pace
      pace1 = moves_past secs room pace r0 h

-- ---- what is reached
module _ (secs : ℕ) (gap pace : ℤ) where
  flip : (n d : ℤ) → IsReached gap pace n d ↔ IsKept (neg_ℤ gap) (neg_ℤ pace) n d
  flip n d = ((λ h. rw (left, right) (negs _ _ h)), (λ h. unneg _ _ (rw (left, right) at h)))
    where
      left : n *ℤ neg_ℤ pace ≡ neg_ℤ (n *ℤ pace)
      left = let N = # 0 in let P = # 1 in ring (n ∷ pace ∷ []) (N ⊗ ⊝ P) (⊝ (N ⊗ P)) tt

      right : neg_ℤ gap *ℤ d ≡ neg_ℤ (gap *ℤ d)
      right = let G = # 0 in let D = # 1 in ring (gap ∷ d ∷ []) (⊝ G ⊗ D) (⊝ (G ⊗ D)) tt

      negs : (x y : ℤ) → x ≤ℤ y → neg_ℤ y ≤ℤ neg_ℤ x
      negs x y h = omega (arith, ints)

      unneg : (x y : ℤ) → neg_ℤ y ≤ℤ neg_ℤ x → x ≤ℤ y
      unneg x y h = omega (arith, ints)

  -- at once, and for a while
  pub reached_at_once : (p q : Point) → gap ≤ℤ pos 0 → p.num ≡ pos 0 → p.den ≡ pos 1 → IsLastKept secs (neg_ℤ gap) (neg_ℤ pace) q → IsWindow secs (IsReached gap pace) p q
  reached_at_once p q g0 pn pd l = record {
    first = rw (pn, pd) begin;
    last = l.time;
    holds_first = rw (pn, pd) (omega (arith, ints));
    holds_last = (flip q.num q.den).1 ((l.exact q.num q.den l.time).1 (self _));
    exact = λ n d t. (
      (λ h. record { fraction = t.fraction; from = rw (pn, pd) (omega (arith, ints, t.from)); upto = (l.exact n d t).0 ((flip n d).0 h) }),
      (λ b. (flip n d).1 ((l.exact n d t).1 b.upto)),
    );
  }
    where
      begin : IsTime secs (pos 0) (pos 1)
      begin = record { fraction = self _; from = self _; upto = omega (arith, ints) }

  -- later, and to the leg's end
  pub reached_later : (p q : Point) → pos 0 <ℤ gap → gap ≤ℤ (pos secs *ℤ pace) → p.num ≡ gap → p.den ≡ pace → q.num ≡ pos secs → q.den ≡ pos 1 → IsWindow secs (IsReached gap pace) p q
  reached_later p q g0 h pn pd qn qd = record {
    first = rw (pn, pd) (record { fraction = pace1; from = less _ _ g0; upto = h });
    last = rw (qn, qd) (record { fraction = self _; from = sec0 secs; upto = omega (arith, ints) });
    holds_first = rw (pn, pd) (self _);
    holds_last = rw (qn, qd) (omega (arith, ints, h));
    exact = λ n d t. (
      (λ k. record { fraction = t.fraction; from = rw (pn, pd) k; upto = rw (qn, qd) (omega (arith, ints, t.upto)) }),
      (λ b. rw (pn, pd) at b.from),
    );
  }
    where
      pace1 : pos 1 ≤ℤ pace
      pace1 = moves secs gap pace (one _ g0) h
        where
          one : (x : ℤ) → pos 0 <ℤ x → pos 1 ≤ℤ x
          one x h = omega (arith, ints)

  -- or not within the leg
  pub reached_never : pos 0 <ℤ gap → (pos secs *ℤ pace) <ℤ gap → HoldsNever secs (IsReached gap pace)
  reached_never g0 h n d t k = clash (gap *ℤ d) ((gap -ℤ pos 1) *ℤ d)
      (le_trans_ℤ _ _ _ k (paced secs n d pace (gap -ℤ pos 1) t (before _ g0) (next _ _ h)))
      (fewer (natural t.fraction))
    where
      before : (x : ℤ) → pos 0 <ℤ x → pos 0 ≤ℤ (x -ℤ pos 1)
      before x h = omega (arith, ints)

      next : (x y : ℤ) → x <ℤ y → x ≤ℤ (y -ℤ pos 1)
      next x y h = omega (arith, ints)

      fewer : pos 0 ≤ℤ d → ((gap -ℤ pos 1) *ℤ d) <ℤ (gap *ℤ d)
      fewer d0 = below _ _ (let G = # 0 in let D = # 1 in ring (gap ∷ d ∷ []) (G ⊗ D ⊖ (G ⊖ lit (pos 1)) ⊗ D) D tt)
        where
          below : (x y : ℤ) → y -ℤ x ≡ d → x <ℤ y
          below x y e = omega (arith, ints, t.fraction)

-- ---- both
-- the earlier of two times
pub record IsEarlier (p q r : Point) : Type 0 where
  pub one : (r ≡ p) ⊎ (r ≡ q)
  pub first : IsInOrder r p
  pub second : IsInOrder r q

pub earlier_is : (p q r : Point) → (IsBefore q p → r ≡ q) → (IsInOrder p q → r ≡ p) → IsEarlier p q r
earlier_is p q r second first = by_lt_z (q.num *ℤ p.den) (p.num *ℤ q.den)
    (λ l. subst (λ (x : Point). IsEarlier p q x) (sym (second l)) (record { one = inr refl; first = less _ _ l; second = self _ }))
    (λ l. subst (λ (x : Point). IsEarlier p q x) (sym (first l)) (record { one = inl refl; first = self _; second = l }))

module _ (secs : ℕ) (height speed : ℤ) (volume : Volume) (bounds : ErrorBounds) (p q s r : Point) where
  abbrev gap : ℤ
  gap = gap_of (height -ℤ pos bounds.height) (pos bounds.climb -ℤ speed) volume

  abbrev nearing : ℤ
  nearing = pos bounds.climb -ℤ speed

  abbrev room : ℤ
  room = height +ℤ pos bounds.height +ℤ pos volume.zthr

  abbrev sinking : ℤ
  sinking = neg_ℤ speed -ℤ pos bounds.climb

  module _ (w : IsWindow secs (IsReached gap nearing) p q) (l : IsLastKept secs room sinking s) (e : IsEarlier q s r) where
    r_time : IsTime secs r.num r.den
    r_time = ⊎_elim (λ k. subst (λ (x : Point). IsTime secs x.num x.den) (sym k) w.last) (λ k. subst (λ (x : Point). IsTime secs x.num x.den) (sym k) l.time) e.one

    -- not after q and not after s is not after r
    upto_r : (n d : ℤ) → (n *ℤ q.den) ≤ℤ (q.num *ℤ d) → (n *ℤ s.den) ≤ℤ (s.num *ℤ d) → (n *ℤ r.den) ≤ℤ (r.num *ℤ d)
    upto_r n d h k = ⊎_elim
        (λ i. subst (λ (x : Point). (n *ℤ x.den) ≤ℤ (x.num *ℤ d)) (sym i) h)
        (λ i. subst (λ (x : Point). (n *ℤ x.den) ≤ℤ (x.num *ℤ d)) (sym i) k)
        e.one

    into : (n d : ℤ) → IsTime secs n d → IsInReach height speed volume bounds n d → IsBetween p r n d
    into n d t h =
        let b = (w.exact n d t).0 h.reached in
        record { fraction = t.fraction; from = b.from; upto = upto_r n d b.upto ((l.exact n d t).0 h.kept) }

    out_of : (n d : ℤ) → IsTime secs n d → IsBetween p r n d → IsInReach height speed volume bounds n d
    out_of n d t b = record {
      reached = (w.exact n d t).1 (record {
        fraction = t.fraction;
        from = b.from;
        upto = trans n d r.num r.den q.num q.den (natural t.fraction) r_time.fraction (natural w.last.fraction) b.upto e.first;
      });
      kept = (l.exact n d t).1 (trans n d r.num r.den s.num s.den (natural t.fraction) r_time.fraction (natural l.time.fraction) b.upto e.second);
    }

    pub in_reach : IsInOrder p r → IsWindow secs (IsInReach height speed volume bounds) p r
    in_reach order = record {
      first = w.first;
      last = r_time;
      holds_first = out_of p.num p.den w.first (record { fraction = w.first.fraction; from = self _; upto = order });
      holds_last = out_of r.num r.den r_time (record { fraction = r_time.fraction; from = order; upto = self _ });
      exact = λ n d t. (into n d t, out_of n d t);
    }

    pub out_of_reach : IsBefore r p → HoldsNever secs (IsInReach height speed volume bounds)
    out_of_reach early n d t h =
        let b = into n d t h in
        clash (p.num *ℤ r.den) (r.num *ℤ p.den)
        (trans p.num p.den n d r.num r.den (natural w.first.fraction) t.fraction (natural r_time.fraction) b.from b.upto) early
