-- What violates in truth may be violated by what is reported.
use Rattle.std.proofs.Common.{zero, suc, negsuc, unsigned_abs, List, [], ◌∷◌, ◌≡◌, inl, inr, ⊎_elim, refl, subst, ◌∙◌, arith, ℤ, pos, ◌+ℤ◌, ◌*ℤ◌, ◌-ℤ◌, neg_ℤ, ◌≤ℤ◌, ◌<ℤ◌}
use Rattle.std.proofs.lemmas.Int.{ints, by_lt_z}
use Rattle.daa_fixed.proofs.Ring.{mul_nonneg, square_nonneg, ring, #, lit, ⊝, ◌⊕◌, ◌⊖◌, ◌⊗◌}
use Rattle.daa_fixed.proofs.Integers.{mul_pos, rest, by_rest, sum_nonneg, clash}
use Rattle.daa_fixed.proofs.Lengths.{nearing_moves}
use Rattle.daa_fixed.specs.declared.Flat.{Flat}
use Rattle.daa_fixed.specs.declared.Leg.{Leg}
use Rattle.daa_fixed.specs.Flat.{dot_of, cross_of, square_of}
use Rattle.daa_fixed.specs.Size.{IsFrom}
use Rattle.daa_taumod.specs.declared.Model.{Model}
use Rattle.daa_taumod.specs.declared.Model.TheVariants.{Tau, Tcpa, Taumod, Tep}
use Rattle.daa_taumod.specs.declared.Volume.{Volume}
use Rattle.daa_taumod.specs.Volume.{place_at, height_at, IsNear, IsSoon, IsClosing, IsNearInHeight, IsCoAltitudeSoon, ViolatesHorizontally, ViolatesVertically, Violates}
use Rattle.daa_taumod.proofs.ClosestApproach.{closest_or_near, tau_closest, closest_modified}
use Rattle.daa_margin.specs.declared.ErrorBounds.{ErrorBounds}
use Rattle.daa_margin.specs.ErrorBounds.{place_error_at, height_error_at, IsWithinErrors}
use Rattle.daa_margin.specs.MayViolate.{HoldsWithinNext, IsRootAbove, MayBeNear, square_within, twice_middle_at, twice_middle_error_at, MayBeSoon, MayBeSoonBy, MayViolateHorizontally}
use Rattle.daa_margin.specs.MayViolate.{MayBeNearInHeight, MayBeCoAltitude, MayViolateVertically, MayViolate}
use Rattle.daa_margin.proofs.Roots.{root_above}
use Rattle.daa_margin.proofs.Sums.{len, entry, modified_tau}

-- the square of a s - (s.v) v, where a is v.v: a times that of s x v
at_closest : (s v : Flat) (q : ℤ) → (cross_of s v *ℤ cross_of s v) ≤ℤ (q *ℤ q *ℤ dot_of v v) → pos 0 ≤ℤ dot_of v v
    → len (dot_of v v *ℤ s.east +ℤ neg_ℤ (dot_of s v) *ℤ v.east) (dot_of v v *ℤ s.north +ℤ neg_ℤ (dot_of s v) *ℤ v.north) ≤ℤ square_of (dot_of v v *ℤ q)
at_closest s v q near a0 =
    let X = # 0 in let Y = # 1 in let U = # 2 in let V = # 3 in let Q = # 4 in
    let A = U ⊗ U ⊕ V ⊗ V in let B = ⊝ (X ⊗ U ⊕ Y ⊗ V) in let C = X ⊗ V ⊖ Y ⊗ U in
    by_rest _ _ _
    (ring (s.east ∷ s.north ∷ v.east ∷ v.north ∷ q ∷ [])
    ((A ⊗ Q) ⊗ (A ⊗ Q) ⊖ ((A ⊗ X ⊕ B ⊗ U) ⊗ (A ⊗ X ⊕ B ⊗ U) ⊕ (A ⊗ Y ⊕ B ⊗ V) ⊗ (A ⊗ Y ⊕ B ⊗ V)))
    (A ⊗ (Q ⊗ Q ⊗ A ⊖ C ⊗ C))
    tt)
    (mul_nonneg (dot_of v v) _ a0 (rest _ _ near))

-- e times what is at n/d, and k times the velocity: what is there at (n e + k) / (d e)
place_later : (x v n d e k : ℤ) → e *ℤ (d *ℤ x +ℤ n *ℤ v) +ℤ k *ℤ v ≡ (d *ℤ e) *ℤ x +ℤ (n *ℤ e +ℤ k) *ℤ v
place_later x v n d e k =
    let X = # 0 in let V = # 1 in let N = # 2 in let D = # 3 in let E = # 4 in let K = # 5 in
    ring (x ∷ v ∷ n ∷ d ∷ e ∷ k ∷ []) (E ⊗ (D ⊗ X ⊕ N ⊗ V) ⊕ K ⊗ V) ((D ⊗ E) ⊗ X ⊕ (N ⊗ E ⊕ K) ⊗ V) tt

-- the bound then
bound_later : (near place speed n d e k : ℤ) → e *ℤ (near *ℤ d) +ℤ (e *ℤ (d *ℤ place +ℤ n *ℤ speed) +ℤ k *ℤ speed)
    ≡ near *ℤ (d *ℤ e) +ℤ ((d *ℤ e) *ℤ place +ℤ (n *ℤ e +ℤ k) *ℤ speed)
bound_later near place speed n d e k =
    let R = # 0 in let P = # 1 in let S = # 2 in let N = # 3 in let D = # 4 in let E = # 5 in let K = # 6 in
    ring (near ∷ place ∷ speed ∷ n ∷ d ∷ e ∷ k ∷ []) (E ⊗ (R ⊗ D) ⊕ (E ⊗ (D ⊗ P ⊕ N ⊗ S) ⊕ K ⊗ S)) (R ⊗ (D ⊗ E) ⊕ ((D ⊗ E) ⊗ P ⊕ (N ⊗ E ⊕ K) ⊗ S)) tt

turned : (x : ℤ) → x <ℤ pos 0 → pos 0 ≤ℤ neg_ℤ x
turned x h = omega (arith, ints)

-- ---- heights
size_out : (z q : ℤ) → pos (unsigned_abs z) ≤ℤ q → IsFrom (neg_ℤ q) q z
size_out (pos z) q h = record { least = omega (arith, ints); most = omega (arith, ints) }
size_out (negsuc z) q h = record { least = omega (arith, ints); most = omega (arith, ints) }

size_in : (z q : ℤ) → IsFrom (neg_ℤ q) q z → pos (unsigned_abs z) ≤ℤ q
size_in (pos z) q h = omega (arith, ints, h.most)
size_in (negsuc z) q h = omega (arith, ints, h.least)

abs_up : (z : ℤ) → pos 0 ≤ℤ z → pos (unsigned_abs z) ≡ z
abs_up (pos z) h = refl
abs_up (negsuc z) h = absurd (omega (arith, ints))

abs_down : (z : ℤ) → z <ℤ pos 0 → pos (unsigned_abs z) ≡ neg_ℤ z
abs_down (pos z) h = absurd (omega (arith, ints))
abs_down (negsuc z) h = refl

-- what nears in height is at co-altitude after the size of the height over that of the speed
meeting : (h w : ℤ) → (h *ℤ w) <ℤ pos 0 → pos (unsigned_abs w) *ℤ h +ℤ pos (unsigned_abs h) *ℤ w ≡ pos 0
meeting h w nears = by_lt_z h (pos 0)
    (λ (down : h <ℤ pos 0). by_lt_z w (pos 0)
    (λ (falls : w <ℤ pos 0). absurd (clash (pos 0) (h *ℤ w) (both_down down falls) nears))
    (λ (rises : pos 0 ≤ℤ w). (λ i. abs_up w rises i *ℤ h +ℤ abs_down h down i *ℤ w) ∙ (let H = # 0 in let W = # 1 in ring (h ∷ w ∷ []) (W ⊗ H ⊕ ⊝ H ⊗ W) (lit (pos 0)) tt)))
    (λ (up : pos 0 ≤ℤ h). by_lt_z w (pos 0)
    (λ (falls : w <ℤ pos 0). (λ i. abs_down w falls i *ℤ h +ℤ abs_up h up i *ℤ w) ∙ (let H = # 0 in let W = # 1 in ring (h ∷ w ∷ []) (⊝ W ⊗ H ⊕ H ⊗ W) (lit (pos 0)) tt))
    (λ (rises : pos 0 ≤ℤ w). absurd (clash (pos 0) (h *ℤ w) (mul_nonneg h w up rises) nears)))
  where
    both_down : h <ℤ pos 0 → w <ℤ pos 0 → pos 0 ≤ℤ (h *ℤ w)
    both_down a c = subst (λ (z : ℤ). pos 0 ≤ℤ z) (let H = # 0 in let W = # 1 in ring (h ∷ w ∷ []) (⊝ H ⊗ ⊝ W) (H ⊗ W) tt)
        (mul_nonneg (neg_ℤ h) (neg_ℤ w) (turned h a) (turned w c))

-- and nothing nears that does not move
moves_up : (h w : ℤ) → (h *ℤ w) <ℤ pos 0 → pos 1 ≤ℤ pos (unsigned_abs w)
moves_up h (pos zero) nears = absurd (clash (pos 0) (h *ℤ pos 0) (subst (λ (z : ℤ). pos 0 ≤ℤ z) (let H = # 0 in ring (h ∷ []) (lit (pos 0)) (H ⊗ lit (pos 0)) tt) (omega (arith, ints))) nears)
moves_up h (pos (suc w)) nears = omega (arith, ints)
moves_up h (negsuc w) nears = omega (arith, ints)

-- what is reported then is at most so far from 0
met : (a k h w h' w' e c : ℤ) → pos 0 ≤ℤ a → pos 0 ≤ℤ k → a *ℤ h +ℤ k *ℤ w ≡ pos 0 → IsFrom (neg_ℤ e) e (h' -ℤ h) → IsFrom (neg_ℤ c) c (w' -ℤ w)
    → IsFrom (neg_ℤ (a *ℤ e +ℤ k *ℤ c)) (a *ℤ e +ℤ k *ℤ c) (a *ℤ h' +ℤ k *ℤ w')
met a k h w h' w' e c a0 k0 zero_there height climb =
    let A = # 0 in let K = # 1 in let H = # 2 in let W = # 3 in let H2 = # 4 in let W2 = # 5 in let E = # 6 in let C = # 7 in
    let ρ : List ℤ = a ∷ k ∷ h ∷ w ∷ h' ∷ w' ∷ e ∷ c ∷ [] in record {
      least = by_rest _ _ _
          (ring ρ ((A ⊗ H2 ⊕ K ⊗ W2) ⊖ ⊝ (A ⊗ E ⊕ K ⊗ C)) ((A ⊗ (H2 ⊖ H ⊖ ⊝ E) ⊕ K ⊗ (W2 ⊖ W ⊖ ⊝ C)) ⊕ (A ⊗ H ⊕ K ⊗ W)) tt
          ∙ (λ i. (a *ℤ (h' -ℤ h -ℤ neg_ℤ e) +ℤ k *ℤ (w' -ℤ w -ℤ neg_ℤ c)) +ℤ zero_there i))
          (sum_nonneg _ _ (sum_nonneg _ _ (mul_nonneg a _ a0 (rest _ _ height.least)) (mul_nonneg k _ k0 (rest _ _ climb.least))) (omega (arith, ints)));
      most = by_rest _ _ _
          (ring ρ ((A ⊗ E ⊕ K ⊗ C) ⊖ (A ⊗ H2 ⊕ K ⊗ W2)) ((A ⊗ (E ⊖ (H2 ⊖ H)) ⊕ K ⊗ (C ⊖ (W2 ⊖ W))) ⊖ (A ⊗ H ⊕ K ⊗ W)) tt
          ∙ (λ i. (a *ℤ (e -ℤ (h' -ℤ h)) +ℤ k *ℤ (c -ℤ (w' -ℤ w))) -ℤ zero_there i))
          (less_nothing _ (sum_nonneg _ _ (mul_nonneg a _ a0 (rest _ _ height.most)) (mul_nonneg k _ k0 (rest _ _ climb.most))));
    }
  where
    less_nothing : (x : ℤ) → pos 0 ≤ℤ x → pos 0 ≤ℤ (x -ℤ pos 0)
    less_nothing x h = omega (arith, ints)

module _ (truth reported : Leg) (volume : Volume) (bounds : ErrorBounds) (n d : ℤ) (n0 : pos 0 ≤ℤ n) (d1 : pos 1 ≤ℤ d) (within : IsWithinErrors bounds truth reported n d) where
  abbrev s : Flat
  s = place_at truth n d

  abbrev v : Flat
  v = truth.velocity.flat

  abbrev s' : Flat
  s' = place_at reported n d

  abbrev v' : Flat
  v' = reported.velocity.flat

  d0 : pos 0 ≤ℤ d
  d0 = omega (arith, ints, d1)

  error0 : pos 0 ≤ℤ place_error_at bounds n d
  error0 = sum_nonneg _ _ (mul_nonneg d (pos bounds.place) d0 (omega (arith, ints))) (mul_nonneg n (pos bounds.speed) n0 (omega (arith, ints)))

  near0 : pos 0 ≤ℤ (pos volume.dthr *ℤ d)
  near0 = mul_nonneg (pos volume.dthr) d (omega (arith, ints)) d0

  -- where the truth is near after k / (d e) seconds more, what is reported may be
  later_near : (e k : ℤ) → pos 0 ≤ℤ e → pos 0 ≤ℤ k → len (e *ℤ s.east +ℤ k *ℤ v.east) (e *ℤ s.north +ℤ k *ℤ v.north) ≤ℤ square_of (e *ℤ (pos volume.dthr *ℤ d))
      → MayBeNear reported volume bounds (n *ℤ e +ℤ k) (d *ℤ e)
  later_near e k e0 k0 near =
      subst (λ (z : ℤ). len z ((d *ℤ e) *ℤ reported.place.flat.north +ℤ (n *ℤ e +ℤ k) *ℤ v'.north) ≤ℤ square_of most)
      (place_later reported.place.flat.east v'.east n d e k)
      (subst (λ (z : ℤ). len (e *ℤ s'.east +ℤ k *ℤ v'.east) z ≤ℤ square_of most)
      (place_later reported.place.flat.north v'.north n d e k)
      (subst (λ (z : ℤ). len (e *ℤ s'.east +ℤ k *ℤ v'.east) (e *ℤ s'.north +ℤ k *ℤ v'.north) ≤ℤ square_of z)
      (bound_later (pos volume.dthr) (pos bounds.place) (pos bounds.speed) n d e k)
      (entry s.east s.north v.east v.north s'.east s'.north v'.east v'.north k e (pos volume.dthr *ℤ d) (place_error_at bounds n d) (pos bounds.speed)
      k0 e0 near0 error0 (omega (arith, ints)) within.place within.velocity near)))
    where
      most : ℤ
      most = pos volume.dthr *ℤ (d *ℤ e) +ℤ place_error_at bounds (n *ℤ e +ℤ k) (d *ℤ e)

  now_near : IsNear truth volume n d → MayBeNear reported volume bounds n d
  now_near near =
      subst (λ (z : ℤ). MayBeNear reported volume bounds z d) (plus_nothing n)
      (subst (λ (z : ℤ). MayBeNear reported volume bounds (n *ℤ pos 1 +ℤ pos 0) z) (times_one d)
      (later_near (pos 1) (pos 0) (omega (arith, ints)) (omega (arith, ints))
      (subst (λ (z : ℤ). len z (pos 1 *ℤ s.north +ℤ pos 0 *ℤ v.north) ≤ℤ square_of (pos 1 *ℤ (pos volume.dthr *ℤ d))) (alone s.east v.east)
      (subst (λ (z : ℤ). len s.east z ≤ℤ square_of (pos 1 *ℤ (pos volume.dthr *ℤ d))) (alone s.north v.north)
      (subst (λ (z : ℤ). len s.east s.north ≤ℤ square_of z) (one_times (pos volume.dthr *ℤ d)) near)))))
    where
      plus_nothing : (x : ℤ) → x *ℤ pos 1 +ℤ pos 0 ≡ x
      plus_nothing x = let X = # 0 in ring (x ∷ []) (X ⊗ lit (pos 1) ⊕ lit (pos 0)) X tt

      times_one : (x : ℤ) → x *ℤ pos 1 ≡ x
      times_one x = let X = # 0 in ring (x ∷ []) (X ⊗ lit (pos 1)) X tt

      one_times : (x : ℤ) → x ≡ pos 1 *ℤ x
      one_times x = let X = # 0 in ring (x ∷ []) X (lit (pos 1) ⊗ X) tt

      alone : (x y : ℤ) → x ≡ pos 1 *ℤ x +ℤ pos 0 *ℤ y
      alone x y = let X = # 0 in let Y = # 1 in ring (x ∷ y ∷ []) X (lit (pos 1) ⊗ X ⊕ lit (pos 0) ⊗ Y) tt

  module _ (c : IsClosing truth volume n d) where
    abbrev vv : ℤ
    vv = dot_of v v

    abbrev sv : ℤ
    sv = dot_of s v

    moves : pos 0 <ℤ vv
    moves = nearing_moves s v c.nearing

    vv0 : pos 0 ≤ℤ vv
    vv0 = omega (arith, ints, moves)

    -- at the closest approach
    closest_enters : neg_ℤ sv ≤ℤ (pos volume.tthr *ℤ d *ℤ vv) → HoldsWithinNext volume.tthr (MayBeNear reported volume bounds) n d
    closest_enters soon = record {
      num = n *ℤ vv +ℤ neg_ℤ sv;
      den = d *ℤ vv;
      fraction = at_least_one _ (mul_pos d vv (omega (arith, ints, d1)) moves);
      from = by_rest _ _ _
          (let N = # 0 in let D = # 1 in let A = # 2 in let B = # 3 in
          ring (n ∷ d ∷ vv ∷ sv ∷ []) ((N ⊗ A ⊕ ⊝ B) ⊗ D ⊖ N ⊗ (D ⊗ A)) (⊝ B ⊗ D) tt)
          (mul_nonneg (neg_ℤ sv) d (turned sv c.nearing) d0);
      upto = by_rest _ _ _
          (let N = # 0 in let D = # 1 in let A = # 2 in let B = # 3 in let T = # 4 in
          ring (n ∷ d ∷ vv ∷ sv ∷ pos volume.tthr ∷ []) ((N ⊕ T ⊗ D) ⊗ (D ⊗ A) ⊖ (N ⊗ A ⊕ ⊝ B) ⊗ D) (D ⊗ (T ⊗ D ⊗ A ⊖ ⊝ B)) tt)
          (mul_nonneg d _ d0 (rest _ _ soon));
      holds = later_near vv (neg_ℤ sv) vv0 (turned sv c.nearing) (at_closest s v (pos volume.dthr *ℤ d) c.near vv0);
    }
      where
        at_least_one : (x : ℤ) → pos 0 <ℤ x → pos 1 ≤ℤ x
        at_least_one x h = omega (arith, ints)

    -- after tthr seconds
    later_enters : IsNear truth volume (n +ℤ pos volume.tthr *ℤ d) d → HoldsWithinNext volume.tthr (MayBeNear reported volume bounds) n d
    later_enters near = record {
      num = n *ℤ pos 1 +ℤ pos volume.tthr *ℤ d;
      den = d *ℤ pos 1;
      fraction = subst (λ (z : ℤ). pos 1 ≤ℤ z) (times_one d) d1;
      from = by_rest _ _ _
          (let N = # 0 in let D = # 1 in let T = # 2 in
          ring (n ∷ d ∷ pos volume.tthr ∷ []) ((N ⊗ lit (pos 1) ⊕ T ⊗ D) ⊗ D ⊖ N ⊗ (D ⊗ lit (pos 1))) (T ⊗ (D ⊗ D)) tt)
          (mul_nonneg (pos volume.tthr) _ (omega (arith, ints)) (square_nonneg d));
      upto = by_rest _ _ _
          (let N = # 0 in let D = # 1 in let T = # 2 in
          ring (n ∷ d ∷ pos volume.tthr ∷ []) ((N ⊕ T ⊗ D) ⊗ (D ⊗ lit (pos 1)) ⊖ (N ⊗ lit (pos 1) ⊕ T ⊗ D) ⊗ D) (lit (pos 0)) tt)
          (omega (arith, ints));
      holds = later_near (pos 1) (pos volume.tthr *ℤ d) (omega (arith, ints)) (mul_nonneg (pos volume.tthr) d (omega (arith, ints)) d0)
          (subst (λ (z : ℤ). len z (pos 1 *ℤ s.north +ℤ (pos volume.tthr *ℤ d) *ℤ v.north) ≤ℤ square_of (pos 1 *ℤ (pos volume.dthr *ℤ d))) (moved truth.place.flat.east v.east)
          (subst (λ (z : ℤ). len (d *ℤ truth.place.flat.east +ℤ (n +ℤ pos volume.tthr *ℤ d) *ℤ v.east) z ≤ℤ square_of (pos 1 *ℤ (pos volume.dthr *ℤ d))) (moved truth.place.flat.north v.north)
          (subst (λ (z : ℤ). len (d *ℤ truth.place.flat.east +ℤ (n +ℤ pos volume.tthr *ℤ d) *ℤ v.east) (d *ℤ truth.place.flat.north +ℤ (n +ℤ pos volume.tthr *ℤ d) *ℤ v.north)
          ≤ℤ square_of z) (one_times (pos volume.dthr *ℤ d)) near)));
    }
      where
        times_one : (x : ℤ) → x ≡ x *ℤ pos 1
        times_one x = let X = # 0 in ring (x ∷ []) X (X ⊗ lit (pos 1)) tt

        one_times : (x : ℤ) → x ≡ pos 1 *ℤ x
        one_times x = let X = # 0 in ring (x ∷ []) X (lit (pos 1) ⊗ X) tt

        moved : (x u : ℤ) → d *ℤ x +ℤ (n +ℤ pos volume.tthr *ℤ d) *ℤ u ≡ pos 1 *ℤ (d *ℤ x +ℤ n *ℤ u) +ℤ (pos volume.tthr *ℤ d) *ℤ u
        moved x u =
            let X = # 0 in let U = # 1 in let N = # 2 in let D = # 3 in let T = # 4 in
            ring (x ∷ u ∷ n ∷ d ∷ pos volume.tthr ∷ []) (D ⊗ X ⊕ (N ⊕ T ⊗ D) ⊗ U) (lit (pos 1) ⊗ (D ⊗ X ⊕ N ⊗ U) ⊕ (T ⊗ D) ⊗ U) tt

    enters : HoldsWithinNext volume.tthr (MayBeNear reported volume bounds) n d
    enters = ⊎_elim closest_enters later_enters (closest_or_near truth volume n d d1 c.nearing c.near volume.model c.soon)

    module _ (most reach : ℤ) (speed_root : IsRootAbove (dot_of v' v') most) (reach_root : IsRootAbove (square_within reported volume bounds most) reach) where
      soon_with : IsSoon Taumod truth volume n d → MayBeSoon reported volume bounds n d
      soon_with soon = record {
        speed = most;
        reach = reach;
        speed_is = speed_root;
        reach_is = reach_root;
        soon = subst (λ (z : ℤ). middle_square ≤ℤ z) (written (dot_of v' v') reach middle_error)
            (modified_tau s.east s.north v.east v.north s'.east s'.north v'.east v'.north (pos volume.tthr *ℤ d) (pos volume.dthr *ℤ d) (place_error_at bounds n d) (pos bounds.speed) most
            (d *ℤ reach) (mul_nonneg (pos volume.tthr) d (omega (arith, ints)) d0) error0 (omega (arith, ints)) speed_root.from (mul_nonneg d reach d0 reach_root.from)
            within.place within.velocity speed_root.above root soon);
      }
        where
          middle_square : ℤ
          middle_square = dot_of (twice_middle_at reported volume bounds n d) (twice_middle_at reported volume bounds n d)

          middle_error : ℤ
          middle_error = twice_middle_error_at reported volume bounds n d

          -- four times the square of the way of d thresholds, as the lemma and as the definition write it
          written : (q r e : ℤ) → (pos 4 *ℤ ((pos volume.dthr *ℤ d) *ℤ (pos volume.dthr *ℤ d))
              +ℤ ((pos volume.tthr *ℤ d) *ℤ (pos volume.tthr *ℤ d)) *ℤ (q +ℤ (pos 2 *ℤ (most *ℤ pos bounds.speed) +ℤ pos bounds.speed *ℤ pos bounds.speed)))
              +ℤ (pos 2 *ℤ ((d *ℤ r) *ℤ e) +ℤ e *ℤ e)
              ≡ square_of d *ℤ (pos 4 *ℤ square_of (pos volume.dthr) +ℤ square_of (pos volume.tthr) *ℤ (q +ℤ pos 2 *ℤ most *ℤ pos bounds.speed +ℤ square_of (pos bounds.speed)))
              +ℤ pos 2 *ℤ (d *ℤ r) *ℤ e +ℤ square_of e
          written q r e =
              let Q = # 0 in let D = # 1 in let N = # 2 in let T = # 3 in let M = # 4 in let S = # 5 in let R = # 6 in let E = # 7 in
              ring (q ∷ d ∷ pos volume.dthr ∷ pos volume.tthr ∷ most ∷ pos bounds.speed ∷ r ∷ e ∷ [])
              ((lit (pos 4) ⊗ ((N ⊗ D) ⊗ (N ⊗ D)) ⊕ ((T ⊗ D) ⊗ (T ⊗ D)) ⊗ (Q ⊕ (lit (pos 2) ⊗ (M ⊗ S) ⊕ S ⊗ S))) ⊕ (lit (pos 2) ⊗ ((D ⊗ R) ⊗ E) ⊕ E ⊗ E))
              ((D ⊗ D) ⊗ (lit (pos 4) ⊗ (N ⊗ N) ⊕ (T ⊗ T) ⊗ (Q ⊕ lit (pos 2) ⊗ M ⊗ S ⊕ S ⊗ S)) ⊕ lit (pos 2) ⊗ (D ⊗ R) ⊗ E ⊕ E ⊗ E)
              tt

          root : (pos 4 *ℤ ((pos volume.dthr *ℤ d) *ℤ (pos volume.dthr *ℤ d))
              +ℤ ((pos volume.tthr *ℤ d) *ℤ (pos volume.tthr *ℤ d)) *ℤ (dot_of v' v' +ℤ (pos 2 *ℤ (most *ℤ pos bounds.speed) +ℤ pos bounds.speed *ℤ pos bounds.speed)))
              ≤ℤ square_of (d *ℤ reach)
          root =
              let Q = # 0 in let D = # 1 in let N = # 2 in let T = # 3 in let M = # 4 in let S = # 5 in let R = # 6 in
              by_rest _ _ _
              (ring (dot_of v' v' ∷ d ∷ pos volume.dthr ∷ pos volume.tthr ∷ most ∷ pos bounds.speed ∷ reach ∷ [])
              ((D ⊗ R) ⊗ (D ⊗ R) ⊖ (lit (pos 4) ⊗ ((N ⊗ D) ⊗ (N ⊗ D)) ⊕ ((T ⊗ D) ⊗ (T ⊗ D)) ⊗ (Q ⊕ (lit (pos 2) ⊗ (M ⊗ S) ⊕ S ⊗ S))))
              ((D ⊗ D) ⊗ (R ⊗ R ⊖ (lit (pos 4) ⊗ (N ⊗ N) ⊕ (T ⊗ T) ⊗ (Q ⊕ lit (pos 2) ⊗ M ⊗ S ⊕ S ⊗ S))))
              tt)
              (mul_nonneg (d *ℤ d) _ (square_nonneg d) (rest _ _ reach_root.above))

    -- by the roots that there are
    soon_by_modified : IsSoon Taumod truth volume n d → MayBeSoon reported volume bounds n d
    soon_by_modified soon =
        let speed = root_above (dot_of v' v') in let reach = root_above (square_within reported volume bounds speed.root) in
        soon_with speed.root reach.root speed.is reach.is soon

    soon_by : (model : Model) → IsSoon model truth volume n d → MayBeSoonBy reported volume bounds model n d
    soon_by Tau soon = soon_by_modified (closest_modified truth volume n d d1 c.nearing c.near (tau_closest truth volume n d d1 c.nearing c.near soon))
    soon_by Tcpa soon = soon_by_modified (closest_modified truth volume n d d1 c.nearing c.near soon)
    soon_by Taumod soon = soon_by_modified soon
    soon_by Tep soon = tt

  horizontally : ViolatesHorizontally truth volume n d → MayViolateHorizontally reported volume bounds n d
  horizontally (inl near) = inl (now_near near)
  horizontally (inr c) = inr (record { near = enters c; soon = soon_by c volume.model c.soon })

  abbrev up : ℤ
  up = height_at truth n d

  abbrev climb : ℤ
  climb = truth.velocity.up

  near_in_height : IsNearInHeight truth volume n d → MayBeNearInHeight reported volume bounds n d
  near_in_height near = wider up (height_at reported n d) (pos volume.zthr *ℤ d) (height_error_at bounds n d) near within.height
    where
      wider : (h h' z e : ℤ) → pos (unsigned_abs h) ≤ℤ z → pos (unsigned_abs (h' -ℤ h)) ≤ℤ e → pos (unsigned_abs h') ≤ℤ (z +ℤ e)
      wider h h' z e one two = size_in h' _ (record {
        least = omega (arith, ints, (size_out h z one).least, (size_out (h' -ℤ h) e two).least);
        most = omega (arith, ints, (size_out h z one).most, (size_out (h' -ℤ h) e two).most);
      })

  abbrev pace : ℤ
  pace = pos (unsigned_abs climb)

  abbrev gap : ℤ
  gap = pos (unsigned_abs up)

  co_altitude : IsCoAltitudeSoon truth volume n d → HoldsWithinNext volume.tcoa (MayBeCoAltitude reported volume bounds) n d
  co_altitude c = record {
    num = n *ℤ pace +ℤ gap;
    den = d *ℤ pace;
    fraction = at_least_one _ (mul_pos d pace (omega (arith, ints, d1)) (omega (arith, ints, a1)));
    from = by_rest _ _ _
        (let N = # 0 in let D = # 1 in let A = # 2 in let K = # 3 in ring (n ∷ d ∷ pace ∷ gap ∷ []) ((N ⊗ A ⊕ K) ⊗ D ⊖ N ⊗ (D ⊗ A)) (K ⊗ D) tt)
        (mul_nonneg gap d (omega (arith, ints)) d0);
    upto = by_rest _ _ _
        (let N = # 0 in let D = # 1 in let A = # 2 in let K = # 3 in let T = # 4 in
        ring (n ∷ d ∷ pace ∷ gap ∷ pos volume.tcoa ∷ []) ((N ⊕ T ⊗ D) ⊗ (D ⊗ A) ⊖ (N ⊗ A ⊕ K) ⊗ D) (D ⊗ (T ⊗ D ⊗ A ⊖ K)) tt)
        (mul_nonneg d _ d0 (rest _ _ c.soon));
    holds = subst (λ (z : ℤ). pos (unsigned_abs z) ≤ℤ height_error_at bounds (n *ℤ pace +ℤ gap) (d *ℤ pace))
        (place_later reported.place.up reported.velocity.up n d pace gap)
        (subst (λ (z : ℤ). pos (unsigned_abs (pace *ℤ height_at reported n d +ℤ gap *ℤ reported.velocity.up)) ≤ℤ z)
        (place_later (pos bounds.height) (pos bounds.climb) n d pace gap)
        (size_in _ _ (met pace gap up climb (height_at reported n d) reported.velocity.up (height_error_at bounds n d) (pos bounds.climb) (omega (arith, ints)) (omega (arith, ints))
        (meeting up climb c.nearing) (size_out _ _ within.height) (size_out _ _ within.climb))));
  }
    where
      a1 : pos 1 ≤ℤ pace
      a1 = moves_up up climb c.nearing

      at_least_one : (x : ℤ) → pos 0 <ℤ x → pos 1 ≤ℤ x
      at_least_one x h = omega (arith, ints)

  vertically : ViolatesVertically truth volume n d → MayViolateVertically reported volume bounds n d
  vertically (inl near) = inl (near_in_height near)
  vertically (inr c) = inr (co_altitude c)

  pub both_parts : Violates truth volume n d → MayViolate reported volume bounds n d
  both_parts v = record { horizontal = horizontally v.horizontal; vertical = vertically v.vertical }
