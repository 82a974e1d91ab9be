-- What may be violated grows with the bounds and with the volume.
use Rattle.std.proofs.Common.{[], ◌∷◌, ◌≡◌, inl, inr, subst, arith, ℕ, ℤ, pos, ◌+ℤ◌, ◌*ℤ◌, ◌-ℤ◌, neg_ℤ, ◌≤ℤ◌, ◌<ℤ◌, ◌≤◌}
use Rattle.std.proofs.lemmas.Int.{ints, by_lt_z}
use Rattle.daa_fixed.proofs.Ring.{Poly, mul_nonneg, square_nonneg, ring, #, lit, ⊝, ◌⊕◌, ◌⊖◌, ◌⊗◌}
use Rattle.daa_fixed.proofs.Integers.{mul_pos, cancel_le, mul_le, mul_le_left, rest, by_rest, below_by_rest, sum_nonneg, le_trans_ℤ, clash, root_within}
use Rattle.std.proofs.Math.IntN.{*ℤ_comm}
use Rattle.daa_fixed.specs.declared.Flat.{Flat}
use Rattle.daa_fixed.specs.declared.Leg.{Leg}
use Rattle.daa_fixed.specs.Flat.{dot_of, square_of}
use Rattle.daa_taumod.specs.declared.Model.{Model}
use Rattle.daa_taumod.specs.declared.Model.TheVariants.{Tau, Tcpa, Taumod, Tep}
use Rattle.daa_taumod.specs.declared.Volume.{Volume}
use Rattle.daa_taumod.specs.Volume.{place_of, place_at}
use Rattle.daa_margin.specs.declared.ErrorBounds.{ErrorBounds}
use Rattle.daa_margin.specs.ErrorBounds.{AreNoWider, place_error_at, height_error_at}
use Rattle.daa_margin.specs.MayViolate.{HoldsWithinNext, IsVolumeWithin, MayBeNear, square_within, twice_middle_error_at, MayBeSoon, MayBeSoonBy}
use Rattle.daa_margin.specs.MayViolate.{MayViolateHorizontally, MayViolateVertically, MayViolate}
use Rattle.daa_margin.proofs.Roots.{squares_grow, root_above, roots_grow}
use Rattle.daa_margin.proofs.Sums.{len, len_nonneg, scaled_len, sums}

-- a condition that is weaker at each time from the beginning on, over a longer time
pub weaker_within : (short long : ℕ) (P Q : ℤ → ℤ → Type 0) (n d : ℤ) → pos 0 ≤ℤ n → pos 1 ≤ℤ d → short ≤ long
    → ((m e : ℤ) → pos 0 ≤ℤ m → pos 1 ≤ℤ e → P m e → Q m e) → HoldsWithinNext short P n d → HoldsWithinNext long Q n d
weaker_within short long P Q n d n0 d1 more weaker h = record {
  num = h.num;
  den = h.den;
  fraction = h.fraction;
  from = h.from;
  upto = le_trans_ℤ _ _ _ h.upto (mul_le _ _ h.den (omega (arith, ints, h.fraction)) (later (mul_le (pos short) (pos long) d (omega (arith, ints)) (omega (arith, ints, more)))));
  holds = weaker h.num h.den (begun h.num h.den d h.fraction d1 (le_trans_ℤ _ _ _ (mul_nonneg n h.den n0 (omega (arith, ints, h.fraction))) h.from)) h.fraction h.holds;
}
  where
    later : (pos short *ℤ d) ≤ℤ (pos long *ℤ d) → (n +ℤ pos short *ℤ d) ≤ℤ (n +ℤ pos long *ℤ d)
    later k = omega (arith, ints)

    begun : (m e d : ℤ) → pos 1 ≤ℤ e → pos 1 ≤ℤ d → pos 0 ≤ℤ (m *ℤ d) → pos 0 ≤ℤ m
    begun m e d e1 d1 h = cancel_right m d (omega (arith, ints, d1)) h
      where
        cancel_right : (m d : ℤ) → pos 0 <ℤ d → pos 0 ≤ℤ (m *ℤ d) → pos 0 ≤ℤ m
        cancel_right m d d0 h = cancel_le d m d0 (subst (λ (z : ℤ). pos 0 ≤ℤ z) (*ℤ_comm m d) h)

-- an error grows with its bounds
error_grows : (d n p s p' s' : ℤ) → pos 0 ≤ℤ d → pos 0 ≤ℤ n → p ≤ℤ p' → s ≤ℤ s' → (d *ℤ p +ℤ n *ℤ s) ≤ℤ (d *ℤ p' +ℤ n *ℤ s')
error_grows d n p s p' s' d0 n0 hp hs = added (mul_le_left d p p' d0 hp) (mul_le_left n s s' n0 hs)
  where
    added : {a b c e : ℤ} → a ≤ℤ b → c ≤ℤ e → (a +ℤ c) ≤ℤ (b +ℤ e)
    added h k = omega (arith, ints)

error0 : (d n p s : ℤ) → pos 0 ≤ℤ d → pos 0 ≤ℤ n → pos 0 ≤ℤ p → pos 0 ≤ℤ s → pos 0 ≤ℤ (d *ℤ p +ℤ n *ℤ s)
error0 d n p s d0 n0 p0 s0 = sum_nonneg _ _ (mul_nonneg d p d0 p0) (mul_nonneg n s n0 s0)

-- what is compared with the square of twice the place in the middle
abbrev pub room_of : (d k r e : ℤ) → ℤ
room_of d k r e = square_of d *ℤ k +ℤ pos 2 *ℤ (d *ℤ r) *ℤ e +ℤ square_of e

pub room_grows : (d k r e k' r' e' : ℤ) → pos 0 ≤ℤ d → pos 0 ≤ℤ r → pos 0 ≤ℤ e → k ≤ℤ k' → r ≤ℤ r' → e ≤ℤ e' → room_of d k r e ≤ℤ room_of d k' r' e'
room_grows d k r e k' r' e' d0 r0 e0 hk hr he =
    let D = # 0 in let K = # 1 in let R = # 2 in let E = # 3 in let K2 = # 4 in let R2 = # 5 in let E2 = # 6 in
    by_rest _ _ _
    (ring (d ∷ k ∷ r ∷ e ∷ k' ∷ r' ∷ e' ∷ [])
    (((D ⊗ D) ⊗ K2 ⊕ lit (pos 2) ⊗ (D ⊗ R2) ⊗ E2 ⊕ E2 ⊗ E2) ⊖ ((D ⊗ D) ⊗ K ⊕ lit (pos 2) ⊗ (D ⊗ R) ⊗ E ⊕ E ⊗ E))
    (((D ⊗ D) ⊗ (K2 ⊖ K) ⊕ (lit (pos 2) ⊗ D) ⊗ ((R2 ⊖ R) ⊗ E2)) ⊕ ((lit (pos 2) ⊗ D) ⊗ (R ⊗ (E2 ⊖ E)) ⊕ (E2 ⊖ E) ⊗ (E2 ⊕ E)))
    tt)
    (sum_nonneg _ _
    (sum_nonneg _ _ (mul_nonneg (d *ℤ d) _ (square_nonneg d) (rest _ _ hk)) (mul_nonneg _ _ twice (mul_nonneg _ _ (rest _ _ hr) e2)))
    (sum_nonneg _ _ (mul_nonneg _ _ twice (mul_nonneg r _ r0 (rest _ _ he))) (mul_nonneg _ _ (rest _ _ he) (sum_nonneg _ _ e2 e0))))
  where
    twice : pos 0 ≤ℤ (pos 2 *ℤ d)
    twice = mul_nonneg (pos 2) d (omega (arith, ints)) d0

    e2 : pos 0 ≤ℤ e'
    e2 = le_trans_ℤ _ _ _ e0 he

-- the square within which twice the place in the middle may be grows with dthr, and with the error of the velocity
square_grows : (c v t n s n' s' : ℤ) → pos 0 ≤ℤ v → pos 0 ≤ℤ n → pos 0 ≤ℤ s → n ≤ℤ n' → s ≤ℤ s'
    → (pos 4 *ℤ (n *ℤ n) +ℤ (t *ℤ t) *ℤ (c +ℤ pos 2 *ℤ v *ℤ s +ℤ s *ℤ s)) ≤ℤ (pos 4 *ℤ (n' *ℤ n') +ℤ (t *ℤ t) *ℤ (c +ℤ pos 2 *ℤ v *ℤ s' +ℤ s' *ℤ s'))
square_grows c v t n s n' s' v0 n0 s0 hn hs =
    let C = # 0 in let V = # 1 in let T = # 2 in let N = # 3 in let S = # 4 in let N2 = # 5 in let S2 = # 6 in
    by_rest _ _ _
    (ring (c ∷ v ∷ t ∷ n ∷ s ∷ n' ∷ s' ∷ [])
    ((lit (pos 4) ⊗ (N2 ⊗ N2) ⊕ (T ⊗ T) ⊗ (C ⊕ lit (pos 2) ⊗ V ⊗ S2 ⊕ S2 ⊗ S2)) ⊖ (lit (pos 4) ⊗ (N ⊗ N) ⊕ (T ⊗ T) ⊗ (C ⊕ lit (pos 2) ⊗ V ⊗ S ⊕ S ⊗ S)))
    (lit (pos 4) ⊗ (N2 ⊗ N2 ⊖ N ⊗ N) ⊕ (T ⊗ T) ⊗ ((lit (pos 2) ⊗ V) ⊗ (S2 ⊖ S) ⊕ (S2 ⊗ S2 ⊖ S ⊗ S)))
    tt)
    (sum_nonneg _ _
    (mul_nonneg (pos 4) _ (omega (arith, ints)) (rest _ _ (squares_grow n n' n0 hn)))
    (mul_nonneg (t *ℤ t) _ (square_nonneg t) (sum_nonneg _ _ (mul_nonneg _ _ (mul_nonneg (pos 2) v (omega (arith, ints)) v0) (rest _ _ hs)) (rest _ _ (squares_grow s s' s0 hs)))))

natural : {a b : ℕ} → a ≤ b → pos a ≤ℤ pos b
natural h = omega (arith, ints)

natural0 : (a : ℕ) → pos 0 ≤ℤ pos a
natural0 a = omega (arith, ints)

times-two : (x : ℤ) {y : ℤ} → x ≤ℤ y → (pos 2 *ℤ x) ≤ℤ (pos 2 *ℤ y)
times-two x h = omega (arith, ints)

-- ---- with the bounds
module _ (leg : Leg) (volume : Volume) (narrow wide : ErrorBounds) (w : AreNoWider narrow wide) where
  near_grows : (n d : ℤ) → pos 0 ≤ℤ n → pos 1 ≤ℤ d → MayBeNear leg volume narrow n d → MayBeNear leg volume wide n d
  near_grows n d n0 d1 h = le_trans_ℤ _ _ _ h (squares_grow _ _
      (sum_nonneg _ _ (mul_nonneg (pos volume.dthr) d (natural0 volume.dthr) d0) (error0 d n _ _ d0 n0 (natural0 narrow.place) (natural0 narrow.speed)))
      (farther (error_grows d n _ _ _ _ d0 n0 (natural w.place) (natural w.speed))))
    where
      d0 : pos 0 ≤ℤ d
      d0 = omega (arith, ints, d1)

      farther : {x y : ℤ} → x ≤ℤ y → (pos volume.dthr *ℤ d +ℤ x) ≤ℤ (pos volume.dthr *ℤ d +ℤ y)
      farther k = omega (arith, ints)

  soon_grows : (n d : ℤ) → pos 0 ≤ℤ n → pos 1 ≤ℤ d → MayBeSoon leg volume narrow n d → MayBeSoon leg volume wide n d
  soon_grows n d n0 d1 h =
      let r = root_above (square_within leg volume wide h.speed) in
      let more = square_grows (dot_of leg.velocity.flat leg.velocity.flat) h.speed (pos volume.tthr) (pos volume.dthr) (pos narrow.speed) (pos volume.dthr) (pos wide.speed)
      h.speed_is.from (natural0 volume.dthr) (natural0 narrow.speed) (self (pos volume.dthr)) (natural w.speed) in record {
        speed = h.speed;
        reach = r.root;
        speed_is = h.speed_is;
        reach_is = r.is;
        soon = le_trans_ℤ _ _ _ h.soon
            (room_grows d _ h.reach (twice_middle_error_at leg volume narrow n d) _ r.root (twice_middle_error_at leg volume wide n d) d0 h.reach_is.from
            (sum_nonneg _ _ (mul_nonneg (pos 2) _ (natural0 2) (error0 d n _ _ d0 n0 (natural0 narrow.place) (natural0 narrow.speed))) (mul_nonneg _ _ way0 (natural0 narrow.speed)))
            more (roots_grow _ _ _ _ more h.reach_is r.is)
            (added (times-two _ (error_grows d n _ _ _ _ d0 n0 (natural w.place) (natural w.speed))) (mul_le_left _ _ _ way0 (natural w.speed))));
      }
    where
      d0 : pos 0 ≤ℤ d
      d0 = omega (arith, ints, d1)

      way0 : pos 0 ≤ℤ (pos volume.tthr *ℤ d)
      way0 = mul_nonneg (pos volume.tthr) d (natural0 volume.tthr) d0

      self : (z : ℤ) → z ≤ℤ z
      self z = omega (arith, ints)

      added : {a b c e : ℤ} → a ≤ℤ b → c ≤ℤ e → (a +ℤ c) ≤ℤ (b +ℤ e)
      added h k = omega (arith, ints)

  soon_by_grows : (model : Model) (n d : ℤ) → pos 0 ≤ℤ n → pos 1 ≤ℤ d → MayBeSoonBy leg volume narrow model n d → MayBeSoonBy leg volume wide model n d
  soon_by_grows Tau n d n0 d1 h = soon_grows n d n0 d1 h
  soon_by_grows Tcpa n d n0 d1 h = soon_grows n d n0 d1 h
  soon_by_grows Taumod n d n0 d1 h = soon_grows n d n0 d1 h
  soon_by_grows Tep n d n0 d1 h = tt

  height_grows : (n d : ℤ) → pos 0 ≤ℤ n → pos 1 ≤ℤ d → height_error_at narrow n d ≤ℤ height_error_at wide n d
  height_grows n d n0 d1 = error_grows d n _ _ _ _ (omega (arith, ints, d1)) n0 (natural w.height) (natural w.climb)

  pub grows_with_bounds : (n d : ℤ) → pos 0 ≤ℤ n → pos 1 ≤ℤ d → MayViolate leg volume narrow n d → MayViolate leg volume wide n d
  grows_with_bounds n d n0 d1 h = record { horizontal = horizontally h.horizontal; vertical = vertically h.vertical }
    where
      horizontally : MayViolateHorizontally leg volume narrow n d → MayViolateHorizontally leg volume wide n d
      horizontally (inl near) = inl (near_grows n d n0 d1 near)
      horizontally (inr enters) = inr (record {
        near = weaker_within volume.tthr volume.tthr _ _ n d n0 d1 (omega arith) near_grows enters.near;
        soon = soon_by_grows volume.model n d n0 d1 enters.soon;
      })

      farther : (z : ℤ) {x y a : ℤ} → a ≤ℤ (z +ℤ x) → x ≤ℤ y → a ≤ℤ (z +ℤ y)
      farther z h k = omega (arith, ints)

      vertically : MayViolateVertically leg volume narrow n d → MayViolateVertically leg volume wide n d
      vertically (inl near) = inl (farther (pos volume.zthr *ℤ d) near (height_grows n d n0 d1))
      vertically (inr level) =
          inr (weaker_within volume.tcoa volume.tcoa _ _ n d n0 d1 (omega arith) (λ m e m0 e1 k. le_trans_ℤ _ _ _ k (height_grows m e m0 e1)) level)

-- ---- with the volume: the time over which it looks ahead
-- what is not near, and will be, nears by no more than the error of the velocity: a is s.s, b s.v, c v.v, q the bound, s the speed of its growth
not_faster : (a b c q s e k : ℤ) → pos 0 ≤ℤ q → pos 0 ≤ℤ s → pos 1 ≤ℤ e → pos 0 ≤ℤ k → (b *ℤ b) ≤ℤ (a *ℤ c) → pos 0 ≤ℤ a
    → (q *ℤ q) <ℤ a → (e *ℤ e *ℤ a +ℤ pos 2 *ℤ (e *ℤ k) *ℤ b +ℤ k *ℤ k *ℤ c) ≤ℤ ((e *ℤ q +ℤ k *ℤ s) *ℤ (e *ℤ q +ℤ k *ℤ s))
    → pos 0 ≤ℤ b → (b *ℤ b) ≤ℤ (s *ℤ s *ℤ a)
not_faster a b c q s e k q0 s0 e1 k0 cauchy a0 far later b0 = by_lt_z (s *ℤ s) c quick slow
  where
    slow : c ≤ℤ (s *ℤ s) → (b *ℤ b) ≤ℤ (s *ℤ s *ℤ a)
    slow h = le_trans_ℤ _ _ _ cauchy (subst (λ (z : ℤ). z ≤ℤ (s *ℤ s *ℤ a)) (*ℤ_comm c a) (mul_le c (s *ℤ s) a a0 h))

    -- the place nears the bound, so b is at most q s
    under : (s *ℤ s) <ℤ c → b ≤ℤ (q *ℤ s)
    under h = by_lt_z (q *ℤ s) b
        (λ more. absurd (clash _ _ later
        (let A = # 0 in let B = # 1 in let C = # 2 in let Q = # 3 in let S = # 4 in let E = # 5 in let K = # 6 in
        below_by_rest _ _ _
        (ring (a ∷ b ∷ c ∷ q ∷ s ∷ e ∷ k ∷ [])
        ((E ⊗ E ⊗ A ⊕ lit (pos 2) ⊗ (E ⊗ K) ⊗ B ⊕ K ⊗ K ⊗ C) ⊖ (E ⊗ Q ⊕ K ⊗ S) ⊗ (E ⊗ Q ⊕ K ⊗ S))
        ((E ⊗ E) ⊗ (A ⊖ Q ⊗ Q) ⊕ ((lit (pos 2) ⊗ (E ⊗ K)) ⊗ (B ⊖ Q ⊗ S) ⊕ (K ⊗ K) ⊗ (C ⊖ S ⊗ S)))
        tt)
        (above _ _ (mul_pos (e *ℤ e) _ (mul_pos e e (omega (arith, ints, e1)) (omega (arith, ints, e1))) (gap _ _ far))
        (sum_nonneg _ _ (mul_nonneg _ _ (mul_nonneg (pos 2) _ (natural0 2) (mul_nonneg e k (omega (arith, ints, e1)) k0)) (gap0 _ _ more))
        (mul_nonneg _ _ (square_nonneg k) (gap0 _ _ h)))))))
        (λ less. less)
      where
        gap : (x y : ℤ) → x <ℤ y → pos 0 <ℤ (y -ℤ x)
        gap x y h = omega (arith, ints)

        gap0 : (x y : ℤ) → x <ℤ y → pos 0 ≤ℤ (y -ℤ x)
        gap0 x y h = omega (arith, ints)

        above : (x y : ℤ) → pos 0 <ℤ x → pos 0 ≤ℤ y → pos 0 <ℤ (x +ℤ y)
        above x y h k = omega (arith, ints)

    quick : (s *ℤ s) <ℤ c → (b *ℤ b) ≤ℤ (s *ℤ s *ℤ a)
    quick h = le_trans_ℤ _ _ _ (squares_grow b (q *ℤ s) b0 (under h))
        (subst (λ (z : ℤ). z ≤ℤ (s *ℤ s *ℤ a))
        (let Q = # 0 in let S = # 1 in ring (q ∷ s ∷ []) (S ⊗ S ⊗ (Q ⊗ Q)) ((Q ⊗ S) ⊗ (Q ⊗ S)) tt)
        (mul_le_left (s *ℤ s) (q *ℤ q) a (square_nonneg s) (less _ _ far)))
      where
        less : (x y : ℤ) → x <ℤ y → x ≤ℤ y
        less x y h = omega (arith, ints)

-- at d times the place (x, y), with the velocity (u, w): what may be soon within t seconds, is not near and will be, may be soon within t' seconds
module _ (x y u w d near t t' error speed v reach : ℤ) (d1 : pos 1 ≤ℤ d) (t0 : pos 0 ≤ℤ t) (longer : t ≤ℤ t') (near0 : pos 0 ≤ℤ near) (e0 : pos 0 ≤ℤ error) (s0 : pos 0 ≤ℤ speed)
    (v0 : pos 0 ≤ℤ v) (fast : len u w ≤ℤ (v *ℤ v)) (r0 : pos 0 ≤ℤ reach) where
  abbrev square_by : ℤ → ℤ
  square_by t = pos 4 *ℤ (near *ℤ near) +ℤ (t *ℤ t) *ℤ (len u w +ℤ pos 2 *ℤ v *ℤ speed +ℤ speed *ℤ speed)

  abbrev error_by : ℤ → ℤ
  error_by t = pos 2 *ℤ error +ℤ t *ℤ d *ℤ speed

  abbrev middle_by : ℤ → ℤ
  middle_by t = len (pos 2 *ℤ x +ℤ t *ℤ d *ℤ u) (pos 2 *ℤ y +ℤ t *ℤ d *ℤ w)

  d0 : pos 0 ≤ℤ d
  d0 = omega (arith, ints, d1)

  way0 : pos 0 ≤ℤ (t *ℤ d)
  way0 = mul_nonneg t d t0 d0

  -- twice the place is at most so far off
  abbrev far_by : ℤ
  far_by = (d *ℤ reach +ℤ error_by t) +ℤ t *ℤ d *ℤ v

  far0 : pos 0 ≤ℤ far_by
  far0 = sum_nonneg _ _ (sum_nonneg _ _ (mul_nonneg d reach d0 r0) (sum_nonneg _ _ (mul_nonneg (pos 2) error (natural0 2) e0) (mul_nonneg _ _ way0 s0))) (mul_nonneg _ _ way0 v0)

  twice_within : square_by t ≤ℤ (reach *ℤ reach) → middle_by t ≤ℤ room_of d (square_by t) reach (error_by t) → len (pos 2 *ℤ x) (pos 2 *ℤ y) ≤ℤ (far_by *ℤ far_by)
  twice_within root soon =
      subst (λ (z : ℤ). len z (pos 2 *ℤ y) ≤ℤ (far_by *ℤ far_by)) (back x u)
      (subst (λ (z : ℤ). len ((pos 2 *ℤ x +ℤ t *ℤ d *ℤ u) +ℤ neg_ℤ (t *ℤ d *ℤ u)) z ≤ℤ (far_by *ℤ far_by)) (back y w)
      (sums _ _ _ _ (d *ℤ reach +ℤ error_by t) (t *ℤ d *ℤ v)
      (sum_nonneg _ _ (mul_nonneg d reach d0 r0) (sum_nonneg _ _ (mul_nonneg (pos 2) error (natural0 2) e0) (mul_nonneg _ _ way0 s0))) (mul_nonneg _ _ way0 v0)
      (le_trans_ℤ _ _ _ soon
      (let D = # 0 in let K = # 1 in let R = # 2 in let E = # 3 in
      by_rest _ _ _
      (ring (d ∷ square_by t ∷ reach ∷ error_by t ∷ []) ((D ⊗ R ⊕ E) ⊗ (D ⊗ R ⊕ E) ⊖ ((D ⊗ D) ⊗ K ⊕ lit (pos 2) ⊗ (D ⊗ R) ⊗ E ⊕ E ⊗ E)) ((D ⊗ D) ⊗ (R ⊗ R ⊖ K)) tt)
      (mul_nonneg (d *ℤ d) _ (square_nonneg d) (rest _ _ root))))
      (let U = # 0 in let W = # 1 in let Z = # 2 in let V = # 3 in
      by_rest _ _ _
      (ring (u ∷ w ∷ (t *ℤ d) ∷ v ∷ []) ((Z ⊗ V) ⊗ (Z ⊗ V) ⊖ (⊝ (Z ⊗ U) ⊗ ⊝ (Z ⊗ U) ⊕ ⊝ (Z ⊗ W) ⊗ ⊝ (Z ⊗ W))) ((Z ⊗ Z) ⊗ (V ⊗ V ⊖ (U ⊗ U ⊕ W ⊗ W))) tt)
      (mul_nonneg _ _ (square_nonneg (t *ℤ d)) (rest _ _ fast)))))
    where
      back : (x u : ℤ) → (pos 2 *ℤ x +ℤ t *ℤ d *ℤ u) +ℤ neg_ℤ (t *ℤ d *ℤ u) ≡ pos 2 *ℤ x
      back x u = let X = # 0 in let Z = # 1 in ring (x ∷ (t *ℤ d *ℤ u) ∷ []) ((lit (pos 2) ⊗ X ⊕ Z) ⊕ ⊝ Z) (lit (pos 2) ⊗ X) tt

  module _ (e k : ℤ) (e1 : pos 1 ≤ℤ e) (k0 : pos 0 ≤ℤ k) (off : ((near *ℤ d +ℤ error) *ℤ (near *ℤ d +ℤ error)) <ℤ len x y)
      (later : len (e *ℤ x +ℤ k *ℤ u) (e *ℤ y +ℤ k *ℤ w) ≤ℤ ((e *ℤ (near *ℤ d +ℤ error) +ℤ k *ℤ speed) *ℤ (e *ℤ (near *ℤ d +ℤ error) +ℤ k *ℤ speed)))
      (root : square_by t ≤ℤ (reach *ℤ reach)) (soon : middle_by t ≤ℤ room_of d (square_by t) reach (error_by t)) where
    slope : (pos 2 *ℤ (x *ℤ u +ℤ y *ℤ w)) ≤ℤ (speed *ℤ far_by)
    slope = by_lt_z (x *ℤ u +ℤ y *ℤ w) (pos 0)
        (λ falls. below (mul_nonneg speed far_by s0 far0) falls)
        (λ rises. root_within _ _ (mul_nonneg speed far_by s0 far0)
        (le_trans_ℤ _ _ _ (fourfold rises)
        (subst (λ (z : ℤ). z ≤ℤ ((speed *ℤ far_by) *ℤ (speed *ℤ far_by)))
        (let X = # 0 in let Y = # 1 in let S = # 2 in
        ring (x ∷ y ∷ speed ∷ []) ((S ⊗ S) ⊗ ((lit (pos 2) ⊗ X) ⊗ (lit (pos 2) ⊗ X) ⊕ (lit (pos 2) ⊗ Y) ⊗ (lit (pos 2) ⊗ Y))) (lit (pos 4) ⊗ (S ⊗ S ⊗ (X ⊗ X ⊕ Y ⊗ Y))) tt)
        (subst (λ (z : ℤ). ((speed *ℤ speed) *ℤ len (pos 2 *ℤ x) (pos 2 *ℤ y)) ≤ℤ z)
        (let S = # 0 in let F = # 1 in ring (speed ∷ far_by ∷ []) ((S ⊗ S) ⊗ (F ⊗ F)) ((S ⊗ F) ⊗ (S ⊗ F)) tt)
        (mul_le_left _ _ _ (square_nonneg speed) (twice_within root soon))))))
      where
        below : {z b : ℤ} → pos 0 ≤ℤ z → b <ℤ pos 0 → (pos 2 *ℤ b) ≤ℤ z
        below h k = omega (arith, ints)

        cauchy : ((x *ℤ u +ℤ y *ℤ w) *ℤ (x *ℤ u +ℤ y *ℤ w)) ≤ℤ (len x y *ℤ len u w)
        cauchy =
            let X = # 0 in let Y = # 1 in let U = # 2 in let W = # 3 in
            by_rest _ _ _
            (ring (x ∷ y ∷ u ∷ w ∷ []) ((X ⊗ X ⊕ Y ⊗ Y) ⊗ (U ⊗ U ⊕ W ⊗ W) ⊖ (X ⊗ U ⊕ Y ⊗ W) ⊗ (X ⊗ U ⊕ Y ⊗ W)) ((X ⊗ W ⊖ Y ⊗ U) ⊗ (X ⊗ W ⊖ Y ⊗ U)) tt)
            (square_nonneg (x *ℤ w -ℤ y *ℤ u))

        spread : len (e *ℤ x +ℤ k *ℤ u) (e *ℤ y +ℤ k *ℤ w) ≡ e *ℤ e *ℤ len x y +ℤ pos 2 *ℤ (e *ℤ k) *ℤ (x *ℤ u +ℤ y *ℤ w) +ℤ k *ℤ k *ℤ len u w
        spread =
            let X = # 0 in let Y = # 1 in let U = # 2 in let W = # 3 in let E = # 4 in let K = # 5 in
            ring (x ∷ y ∷ u ∷ w ∷ e ∷ k ∷ [])
            ((E ⊗ X ⊕ K ⊗ U) ⊗ (E ⊗ X ⊕ K ⊗ U) ⊕ (E ⊗ Y ⊕ K ⊗ W) ⊗ (E ⊗ Y ⊕ K ⊗ W))
            (E ⊗ E ⊗ (X ⊗ X ⊕ Y ⊗ Y) ⊕ lit (pos 2) ⊗ (E ⊗ K) ⊗ (X ⊗ U ⊕ Y ⊗ W) ⊕ K ⊗ K ⊗ (U ⊗ U ⊕ W ⊗ W))
            tt

        fourfold : pos 0 ≤ℤ (x *ℤ u +ℤ y *ℤ w) → ((pos 2 *ℤ (x *ℤ u +ℤ y *ℤ w)) *ℤ (pos 2 *ℤ (x *ℤ u +ℤ y *ℤ w))) ≤ℤ (pos 4 *ℤ (speed *ℤ speed *ℤ len x y))
        fourfold rises =
            subst (λ (z : ℤ). z ≤ℤ (pos 4 *ℤ (speed *ℤ speed *ℤ len x y)))
            (let B = # 0 in ring ((x *ℤ u +ℤ y *ℤ w) ∷ []) (lit (pos 4) ⊗ (B ⊗ B)) ((lit (pos 2) ⊗ B) ⊗ (lit (pos 2) ⊗ B)) tt)
            (mul_le_left (pos 4) _ _ (natural0 4)
            (not_faster (len x y) (x *ℤ u +ℤ y *ℤ w) (len u w) (near *ℤ d +ℤ error) speed e k
            (sum_nonneg _ _ (mul_nonneg near d near0 d0) e0) s0 e1 k0 cauchy (len_nonneg x y) off
            (subst (λ (z : ℤ). z ≤ℤ ((e *ℤ (near *ℤ d +ℤ error) +ℤ k *ℤ speed) *ℤ (e *ℤ (near *ℤ d +ℤ error) +ℤ k *ℤ speed))) spread later) rises))

    pub soon_longer : middle_by t' ≤ℤ room_of d (square_by t') reach (error_by t')
    soon_longer =
        let X = # 0 in let Y = # 1 in let U = # 2 in let W = # 3 in let D = # 4 in let N = # 5 in let T = # 6 in let T2 = # 7 in let E = # 8 in let S = # 9 in let V = # 10 in let R = # 11 in
        let Room = λ (T : Poly). (D ⊗ D) ⊗ (lit (pos 4) ⊗ (N ⊗ N) ⊕ (T ⊗ T) ⊗ ((U ⊗ U ⊕ W ⊗ W) ⊕ lit (pos 2) ⊗ V ⊗ S ⊕ S ⊗ S))
        ⊕ lit (pos 2) ⊗ (D ⊗ R) ⊗ (lit (pos 2) ⊗ E ⊕ T ⊗ D ⊗ S) ⊕ (lit (pos 2) ⊗ E ⊕ T ⊗ D ⊗ S) ⊗ (lit (pos 2) ⊗ E ⊕ T ⊗ D ⊗ S) in
        let Middle = λ (T : Poly). (lit (pos 2) ⊗ X ⊕ T ⊗ D ⊗ U) ⊗ (lit (pos 2) ⊗ X ⊕ T ⊗ D ⊗ U) ⊕ (lit (pos 2) ⊗ Y ⊕ T ⊗ D ⊗ W) ⊗ (lit (pos 2) ⊗ Y ⊕ T ⊗ D ⊗ W) in
        by_rest _ _ _
        (ring (x ∷ y ∷ u ∷ w ∷ d ∷ near ∷ t ∷ t' ∷ error ∷ speed ∷ v ∷ reach ∷ [])
        (Room T2 ⊖ Middle T2)
        ((Room T ⊖ Middle T) ⊕ (lit (pos 2) ⊗ ((T2 ⊖ T) ⊗ D)) ⊗ ((S ⊗ ((D ⊗ R ⊕ (lit (pos 2) ⊗ E ⊕ T ⊗ D ⊗ S)) ⊕ T ⊗ D ⊗ V) ⊖ lit (pos 2) ⊗ (X ⊗ U ⊕ Y ⊗ W)) ⊕ (T2 ⊗ D) ⊗ (S ⊗ (V ⊕ S))))
        tt)
        (sum_nonneg _ _ (rest _ _ soon)
        (mul_nonneg _ _ (mul_nonneg (pos 2) _ (natural0 2) (mul_nonneg _ d (rest _ _ longer) d0))
        (sum_nonneg _ _ (rest _ _ slope) (mul_nonneg _ _ (mul_nonneg t' d (le_trans_ℤ _ _ _ t0 longer) d0) (mul_nonneg speed _ s0 (sum_nonneg _ _ v0 s0))))))

-- the square within which twice the place in the middle may be grows with dthr and tthr
square_widens : (q n t n' t' : ℤ) → pos 0 ≤ℤ q → pos 0 ≤ℤ n → pos 0 ≤ℤ t → n ≤ℤ n' → t ≤ℤ t' → (pos 4 *ℤ (n *ℤ n) +ℤ (t *ℤ t) *ℤ q) ≤ℤ (pos 4 *ℤ (n' *ℤ n') +ℤ (t' *ℤ t') *ℤ q)
square_widens q n t n' t' q0 n0 t0 hn ht = added (mul_le_left (pos 4) _ _ (natural0 4) (squares_grow n n' n0 hn)) (mul_le _ _ q q0 (squares_grow t t' t0 ht))
  where
    added : {a b c e : ℤ} → a ≤ℤ b → c ≤ℤ e → (a +ℤ c) ≤ℤ (b +ℤ e)
    added h k = omega (arith, ints)

-- what is there at m/e, seen from n/d: the place, and the bound
pub place_then : (x u n d m e : ℤ) → d *ℤ (e *ℤ x +ℤ m *ℤ u) ≡ e *ℤ (d *ℤ x +ℤ n *ℤ u) +ℤ (m *ℤ d -ℤ n *ℤ e) *ℤ u
place_then x u n d m e =
    let X = # 0 in let U = # 1 in let N = # 2 in let D = # 3 in let M = # 4 in let E = # 5 in
    ring (x ∷ u ∷ n ∷ d ∷ m ∷ e ∷ []) (D ⊗ (E ⊗ X ⊕ M ⊗ U)) (E ⊗ (D ⊗ X ⊕ N ⊗ U) ⊕ (M ⊗ D ⊖ N ⊗ E) ⊗ U) tt

pub bound_then : (r p s n d m e : ℤ) → d *ℤ (r *ℤ e +ℤ (e *ℤ p +ℤ m *ℤ s)) ≡ e *ℤ (r *ℤ d +ℤ (d *ℤ p +ℤ n *ℤ s)) +ℤ (m *ℤ d -ℤ n *ℤ e) *ℤ s
bound_then r p s n d m e =
    let R = # 0 in let P = # 1 in let S = # 2 in let N = # 3 in let D = # 4 in let M = # 5 in let E = # 6 in
    ring (r ∷ p ∷ s ∷ n ∷ d ∷ m ∷ e ∷ []) (D ⊗ (R ⊗ E ⊕ (E ⊗ P ⊕ M ⊗ S))) (E ⊗ (R ⊗ D ⊕ (D ⊗ P ⊕ N ⊗ S)) ⊕ (M ⊗ D ⊖ N ⊗ E) ⊗ S) tt

module _ (leg : Leg) (inner outer : Volume) (bounds : ErrorBounds) (w : IsVolumeWithin inner outer) where
  abbrev v : Flat
  v = leg.velocity.flat

  near_widens : (n d : ℤ) → pos 0 ≤ℤ n → pos 1 ≤ℤ d → MayBeNear leg inner bounds n d → MayBeNear leg outer bounds n d
  near_widens n d n0 d1 h = le_trans_ℤ _ _ _ h (squares_grow _ _
      (sum_nonneg _ _ (mul_nonneg (pos inner.dthr) d (natural0 inner.dthr) d0) (error0 d n _ _ d0 n0 (natural0 bounds.place) (natural0 bounds.speed)))
      (farther (mul_le _ _ d d0 (natural w.dthr))))
    where
      d0 : pos 0 ≤ℤ d
      d0 = omega (arith, ints, d1)

      farther : {x y : ℤ} → x ≤ℤ y → (x +ℤ place_error_at bounds n d) ≤ℤ (y +ℤ place_error_at bounds n d)
      farther k = omega (arith, ints)

  module _ (n d : ℤ) (n0 : pos 0 ≤ℤ n) (d1 : pos 1 ≤ℤ d) where
    abbrev p : Flat
    p = place_at leg n d

    abbrev bound : ℤ
    bound = pos outer.dthr *ℤ d +ℤ place_error_at bounds n d

    -- what is near at m/e, seen from n/d
    seen : (m e : ℤ) → MayBeNear leg outer bounds m e
        → len (e *ℤ p.east +ℤ (m *ℤ d -ℤ n *ℤ e) *ℤ v.east) (e *ℤ p.north +ℤ (m *ℤ d -ℤ n *ℤ e) *ℤ v.north)
        ≤ℤ ((e *ℤ bound +ℤ (m *ℤ d -ℤ n *ℤ e) *ℤ pos bounds.speed) *ℤ (e *ℤ bound +ℤ (m *ℤ d -ℤ n *ℤ e) *ℤ pos bounds.speed))
    seen m e near =
        subst (λ (z : ℤ). len z (e *ℤ p.north +ℤ (m *ℤ d -ℤ n *ℤ e) *ℤ v.north) ≤ℤ square_of then) (place_then leg.place.flat.east v.east n d m e)
        (subst (λ (z : ℤ). len (d *ℤ (place_at leg m e).east) z ≤ℤ square_of then) (place_then leg.place.flat.north v.north n d m e)
        (subst (λ (z : ℤ). len (d *ℤ (place_at leg m e).east) (d *ℤ (place_at leg m e).north) ≤ℤ square_of z)
        (bound_then (pos outer.dthr) (pos bounds.place) (pos bounds.speed) n d m e)
        (scaled_len d _ _ _ near)))
      where
        then : ℤ
        then = e *ℤ bound +ℤ (m *ℤ d -ℤ n *ℤ e) *ℤ pos bounds.speed

    -- the square of the greatest true speed
    abbrev speed_squared : ℤ → ℤ
    speed_squared speed = dot_of v v +ℤ pos 2 *ℤ speed *ℤ pos bounds.speed +ℤ square_of (pos bounds.speed)

    soon_widens : square_of bound <ℤ dot_of p p → HoldsWithinNext inner.tthr (MayBeNear leg outer bounds) n d → MayBeSoon leg inner bounds n d → MayBeSoon leg outer bounds n d
    soon_widens off next h =
        let r = root_above (square_within leg outer bounds h.speed) in record {
          speed = h.speed;
          reach = r.root;
          speed_is = h.speed_is;
          reach_is = r.is;
          soon = soon_longer p.east p.north v.east v.north d (pos outer.dthr) (pos inner.tthr) (pos outer.tthr) (place_error_at bounds n d) (pos bounds.speed) h.speed r.root
              d1 (natural0 inner.tthr) (natural w.tthr) (natural0 outer.dthr) e0 (natural0 bounds.speed) h.speed_is.from h.speed_is.above r.is.from
              next.den (next.num *ℤ d -ℤ n *ℤ next.den) next.fraction (rest _ _ next.from) off (seen next.num next.den next.holds)
              (le_trans_ℤ _ _ _ (square_widens (speed_squared h.speed) _ _ _ _ q0 (natural0 outer.dthr) (natural0 inner.tthr) (self (pos outer.dthr)) (natural w.tthr)) r.is.above)
              (le_trans_ℤ _ _ _ h.soon
              (room_grows d _ h.reach _ _ r.root _ d0 h.reach_is.from (sum_nonneg _ _ (mul_nonneg (pos 2) _ (natural0 2) e0) (mul_nonneg _ _ way0 (natural0 bounds.speed)))
              (square_widens (speed_squared h.speed) _ _ _ _ q0 (natural0 inner.dthr) (natural0 inner.tthr) (natural w.dthr) (self (pos inner.tthr)))
              (roots_grow _ _ _ _ (square_widens (speed_squared h.speed) _ _ _ _ q0 (natural0 inner.dthr) (natural0 inner.tthr) (natural w.dthr) (natural w.tthr)) h.reach_is r.is)
              (self (twice_middle_error_at leg inner bounds n d))));
        }
      where
        d0 : pos 0 ≤ℤ d
        d0 = omega (arith, ints, d1)

        e0 : pos 0 ≤ℤ place_error_at bounds n d
        e0 = error0 d n _ _ d0 n0 (natural0 bounds.place) (natural0 bounds.speed)

        way0 : pos 0 ≤ℤ (pos inner.tthr *ℤ d)
        way0 = mul_nonneg (pos inner.tthr) d (natural0 inner.tthr) d0

        two0 : pos 0 ≤ℤ (pos 2 *ℤ h.speed)
        two0 = mul_nonneg (pos 2) h.speed (natural0 2) h.speed_is.from

        q0 : pos 0 ≤ℤ speed_squared h.speed
        q0 = sum_nonneg _ _ (sum_nonneg _ _ (len_nonneg v.east v.north) (mul_nonneg _ _ two0 (natural0 bounds.speed))) (square_nonneg (pos bounds.speed))

        self : (z : ℤ) → z ≤ℤ z
        self z = omega (arith, ints)

    -- by a model that is no earlier in the order
    plain : (model : Model) → place_of model ≤ 2 → MayBeSoonBy leg inner bounds model n d → MayBeSoon leg inner bounds n d
    plain Tau order h = h
    plain Tcpa order h = h
    plain Taumod order h = h
    plain Tep order h = absurd (omega arith)

    by_model : (first second : Model) → place_of first ≤ place_of second → (MayBeSoon leg inner bounds n d → MayBeSoon leg outer bounds n d)
        → MayBeSoonBy leg inner bounds first n d → MayBeSoonBy leg outer bounds second n d
    by_model first Tau order more h = more (plain first (omega (arith, order)) h)
    by_model first Tcpa order more h = more (plain first (omega (arith, order)) h)
    by_model first Taumod order more h = more (plain first order h)
    by_model first Tep order more h = tt

    horizontally_widens : MayViolateHorizontally leg inner bounds n d → MayViolateHorizontally leg outer bounds n d
    horizontally_widens (inl near) = inl (near_widens n d n0 d1 near)
    horizontally_widens (inr enters) = by_lt_z (square_of bound) (dot_of p p)
        (λ off. inr (record {
          near = weaker_within inner.tthr outer.tthr _ _ n d n0 d1 w.tthr near_widens enters.near;
          soon = by_model inner.model outer.model w.model
              (soon_widens off (weaker_within inner.tthr inner.tthr _ _ n d n0 d1 (omega arith) near_widens enters.near)) enters.soon;
        }))
        (λ near. inl near)

    vertically_widens : MayViolateVertically leg inner bounds n d → MayViolateVertically leg outer bounds n d
    vertically_widens (inl near) = inl (le_trans_ℤ _ _ _ near (farther (mul_le _ _ d (omega (arith, ints, d1)) (natural w.zthr))))
      where
        farther : {x y : ℤ} → x ≤ℤ y → (x +ℤ height_error_at bounds n d) ≤ℤ (y +ℤ height_error_at bounds n d)
        farther k = omega (arith, ints)
    vertically_widens (inr level) = inr (weaker_within inner.tcoa outer.tcoa _ _ n d n0 d1 w.tcoa (λ m e m0 e1 k. k) level)

    pub grows_with_volume : MayViolate leg inner bounds n d → MayViolate leg outer bounds n d
    grows_with_volume h = record { horizontal = horizontally_widens h.horizontal; vertical = vertically_widens h.vertical }
