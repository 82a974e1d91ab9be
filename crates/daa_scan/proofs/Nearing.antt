-- What violates a volume is near: at most the threshold and the way of the time threshold off.
use Rattle.std.proofs.Common.{[], ◌∷◌, ◌≡◌, inl, inr, ⊎_elim, subst, ◌∙◌, arith, ℤ, pos, neg_ℤ, ◌+ℤ◌, ◌*ℤ◌, ◌-ℤ◌, ◌≤ℤ◌, ◌<ℤ◌, unsigned_abs}
use Rattle.std.proofs.lemmas.Int.{ints}
use Rattle.daa_fixed.proofs.Ring.{mul_nonneg, square_nonneg, ring, #, lit, ⊝, ◌⊕◌, ◌⊖◌, ◌⊗◌}
use Rattle.daa_fixed.proofs.Integers.{rest, by_rest, le_trans_ℤ, root_within, mul_le_mul, mul_le_left, sum_nonneg}
use Rattle.daa_fixed.proofs.Lengths.{lagrange, dot_nonneg}
use Rattle.daa_taumod.proofs.ClosestApproach.{closest_modified, closest_or_near}
use Rattle.daa_fixed.proofs.Axes.{not_far}
use Rattle.daa_fixed.specs.Size.{IsFrom}
use Rattle.daa_fixed.specs.declared.Flat.{Flat}
use Rattle.daa_fixed.specs.declared.Leg.{Leg}
use Rattle.daa_fixed.specs.Flat.{dot_of, cross_of}
use Rattle.daa_taumod.specs.declared.Volume.{Volume}
use Rattle.daa_legs.proofs.Stretches.{flown_on, place_later}
use Rattle.daa_taumod.specs.Volume.{place_at, height_at, IsClosing, ViolatesHorizontally, ViolatesVertically}

-- ---- a place, a velocity, and the place t later
-- how fast it moves off is at most the product of both lengths
along_less : (s v : Flat) → (dot_of s v *ℤ dot_of s v) ≤ℤ (dot_of s s *ℤ dot_of v v)
along_less s v = by_rest _ _ _ ((λ i. lagrange s v i -ℤ dot_of s v *ℤ dot_of s v) ∙ left (dot_of s v *ℤ dot_of s v) (cross_of s v *ℤ cross_of s v)) (square_nonneg (cross_of s v))
  where
    left : (x y : ℤ) → (x +ℤ y) -ℤ x ≡ y
    left x y = omega (arith, ints)

-- where it is then within a, it is now within a and the way
near_before : (s v : Flat) (t a speed : ℤ) → pos 0 ≤ℤ t → pos 0 ≤ℤ a → pos 0 ≤ℤ speed → dot_of v v ≤ℤ (speed *ℤ speed)
    → dot_of (flown_on s v t) (flown_on s v t) ≤ℤ (a *ℤ a) → dot_of s s ≤ℤ ((a +ℤ t *ℤ speed) *ℤ (a +ℤ t *ℤ speed))
near_before s v t a speed t0 a0 s0 slow near =
    let X = # 0 in let Y = # 1 in let U = # 2 in let V = # 3 in let T = # 4 in let A = # 5 in let W = # 6 in
    let E = X ⊕ T ⊗ U in let N = Y ⊕ T ⊗ V in
    let then : Flat = flown_on s v t in
    let slower : (neg_ℤ (dot_of then v) *ℤ neg_ℤ (dot_of then v)) ≤ℤ ((a *ℤ speed) *ℤ (a *ℤ speed)) =
    subst (λ (z : ℤ). z ≤ℤ ((a *ℤ speed) *ℤ (a *ℤ speed))) (turned (dot_of then v))
    (subst (λ (z : ℤ). (dot_of then v *ℤ dot_of then v) ≤ℤ z) (paired a speed)
    (le_trans_ℤ _ _ _ (along_less then v) (mul_le_mul (dot_of then then) (dot_of v v) (a *ℤ a) (speed *ℤ speed) (dot_nonneg then) (square_nonneg speed) near slow (dot_nonneg v)))) in
    by_rest _ _ _
    (ring (s.east ∷ s.north ∷ v.east ∷ v.north ∷ t ∷ a ∷ speed ∷ [])
    ((A ⊕ T ⊗ W) ⊗ (A ⊕ T ⊗ W) ⊖ (X ⊗ X ⊕ Y ⊗ Y))
    ((A ⊗ A ⊖ (E ⊗ E ⊕ N ⊗ N)) ⊕ (lit (pos 2) ⊗ (T ⊗ (A ⊗ W ⊖ ⊝ (E ⊗ U ⊕ N ⊗ V))) ⊕ (T ⊗ T) ⊗ (W ⊗ W ⊖ (U ⊗ U ⊕ V ⊗ V))))
    tt)
    (sum_nonneg _ _ (rest _ _ near)
    (sum_nonneg _ _
    (mul_nonneg (pos 2) _ (omega (arith, ints)) (mul_nonneg t _ t0 (rest _ _ (root_within (neg_ℤ (dot_of then v)) (a *ℤ speed) (mul_nonneg a speed a0 s0) slower))))
    (mul_nonneg (t *ℤ t) _ (square_nonneg t) (rest _ _ slow))))
  where
    turned : (x : ℤ) → x *ℤ x ≡ neg_ℤ x *ℤ neg_ℤ x
    turned x = let X = # 0 in ring (x ∷ []) (X ⊗ X) (⊝ X ⊗ ⊝ X) tt

    paired : (x y : ℤ) → (x *ℤ x) *ℤ (y *ℤ y) ≡ (x *ℤ y) *ℤ (x *ℤ y)
    paired x y = let X = # 0 in let Y = # 1 in ring (x ∷ y ∷ []) ((X ⊗ X) ⊗ (Y ⊗ Y)) ((X ⊗ Y) ⊗ (X ⊗ Y)) tt

module _ (leg : Leg) (volume : Volume) (n d speed : ℤ) (d1 : pos 1 ≤ℤ d) (s0 : pos 0 ≤ℤ speed) (slow : dot_of leg.velocity.flat leg.velocity.flat ≤ℤ (speed *ℤ speed)) where
  abbrev place : Flat
  place = place_at leg n d

  abbrev v : Flat
  v = leg.velocity.flat

  abbrev a : ℤ
  a = pos volume.dthr *ℤ d

  abbrev b : ℤ
  b = pos volume.tthr *ℤ d *ℤ speed

  d0 : pos 0 ≤ℤ d
  d0 = omega (arith, ints)

  a0 : pos 0 ≤ℤ a
  a0 = mul_nonneg (pos volume.dthr) d (omega (arith, ints)) d0

  td0 : pos 0 ≤ℤ (pos volume.tthr *ℤ d)
  td0 = mul_nonneg (pos volume.tthr) d (omega (arith, ints)) d0

  b0 : pos 0 ≤ℤ b
  b0 = mul_nonneg (pos volume.tthr *ℤ d) speed td0 s0

  -- modified tau is at most tthr
  near_by_tau : dot_of place v <ℤ pos 0 → (dot_of place place +ℤ pos volume.tthr *ℤ d *ℤ dot_of place v) ≤ℤ (a *ℤ a) → dot_of place place ≤ℤ ((a +ℤ b) *ℤ (a +ℤ b))
  near_by_tau nearing soon =
      let t : ℤ = pos volume.tthr *ℤ d in
      let y : ℤ = neg_ℤ (dot_of place v) in
      let y0 : pos 0 ≤ℤ y = omega (arith, ints, nearing) in
      not_far a b (dot_of place place) (t *ℤ y) a0 b0 (mul_nonneg t y td0 y0)
      (by_rest _ _ _ (turn (dot_of place place) t (dot_of place v) (a *ℤ a)) (rest _ _ soon))
      (by_rest _ _ _ (spread t (dot_of place v) speed (dot_of place place))
      (mul_nonneg (t *ℤ t) _ (square_nonneg t) (rest _ _ (le_trans_ℤ (dot_of place v *ℤ dot_of place v) (dot_of place place *ℤ dot_of v v) (dot_of place place *ℤ (speed *ℤ speed))
      (along_less place v)
      (mul_le_left (dot_of place place) (dot_of v v) (speed *ℤ speed) (dot_nonneg place) slow)))))
    where
      turn : (x t y r : ℤ) → t *ℤ neg_ℤ y -ℤ (x -ℤ r) ≡ r -ℤ (x +ℤ t *ℤ y)
      turn x t y r = let X = # 0 in let T = # 1 in let Y = # 2 in let R = # 3 in ring (x ∷ t ∷ y ∷ r ∷ []) (T ⊗ ⊝ Y ⊖ (X ⊖ R)) (R ⊖ (X ⊕ T ⊗ Y)) tt

      spread : (t y s x : ℤ) → (t *ℤ s) *ℤ (t *ℤ s) *ℤ x -ℤ (t *ℤ neg_ℤ y) *ℤ (t *ℤ neg_ℤ y) ≡ (t *ℤ t) *ℤ (x *ℤ (s *ℤ s) -ℤ y *ℤ y)
      spread t y s x = let T = # 0 in let Y = # 1 in let S = # 2 in let X = # 3 in
          ring (t ∷ y ∷ s ∷ x ∷ []) ((T ⊗ S) ⊗ (T ⊗ S) ⊗ X ⊖ (T ⊗ ⊝ Y) ⊗ (T ⊗ ⊝ Y)) ((T ⊗ T) ⊗ (X ⊗ (S ⊗ S) ⊖ Y ⊗ Y)) tt

  -- by each model the closest approach is soon, or it is near tthr seconds later
  closing_near : IsClosing leg volume n d → dot_of place place ≤ℤ ((a +ℤ b) *ℤ (a +ℤ b))
  closing_near c = ⊎_elim
      (λ closest. near_by_tau c.nearing (closest_modified leg volume n d d1 c.nearing c.near closest))
      (λ near. near_before place v (pos volume.tthr *ℤ d) a speed td0 a0 s0 slow
      (subst (λ (w : Flat). dot_of w w ≤ℤ (a *ℤ a)) (place_later leg n (pos volume.tthr *ℤ d) d) near))
      (closest_or_near leg volume n d d1 c.nearing c.near volume.model c.soon)

  -- the square of the place
  pub flat_near : ViolatesHorizontally leg volume n d → dot_of place place ≤ℤ ((a +ℤ b) *ℤ (a +ℤ b))
  flat_near (inl h) = le_trans_ℤ (dot_of place place) (a *ℤ a) ((a +ℤ b) *ℤ (a +ℤ b)) h (wider a b a0 b0)
    where
      wider : (a b : ℤ) → pos 0 ≤ℤ a → pos 0 ≤ℤ b → (a *ℤ a) ≤ℤ ((a +ℤ b) *ℤ (a +ℤ b))
      wider a b a0 b0 = mul_le_mul a a (a +ℤ b) (a +ℤ b) a0 (omega (arith, ints)) (omega (arith, ints)) (omega (arith, ints)) a0
  flat_near (inr c) = closing_near c

  reached : (x y : ℤ) → (x *ℤ x +ℤ y *ℤ y) ≤ℤ ((a +ℤ b) *ℤ (a +ℤ b)) → IsFrom (neg_ℤ (a +ℤ b)) (a +ℤ b) x
  reached x y h =
      let r0 : pos 0 ≤ℤ (a +ℤ b) = sum_nonneg a b a0 b0 in
      let own : (x *ℤ x) ≤ℤ ((a +ℤ b) *ℤ (a +ℤ b)) = part (x *ℤ x) (y *ℤ y) _ (square_nonneg y) h in
      let other : (neg_ℤ x *ℤ neg_ℤ x) ≤ℤ ((a +ℤ b) *ℤ (a +ℤ b)) = subst (λ (z : ℤ). z ≤ℤ ((a +ℤ b) *ℤ (a +ℤ b))) (let X = # 0 in ring (x ∷ []) (X ⊗ X) (⊝ X ⊗ ⊝ X) tt) own in
      let up = root_within x (a +ℤ b) r0 own in
      let down = root_within (neg_ℤ x) (a +ℤ b) r0 other in
      record { least = omega (arith, ints, down); most = up }
    where
      part : (x y z : ℤ) → pos 0 ≤ℤ y → (x +ℤ y) ≤ℤ z → x ≤ℤ z
      part x y z h k = omega (arith, ints)

  pub east_near : ViolatesHorizontally leg volume n d → IsFrom (neg_ℤ (a +ℤ b)) (a +ℤ b) place.east
  east_near h = reached place.east place.north (flat_near h)

  pub north_near : ViolatesHorizontally leg volume n d → IsFrom (neg_ℤ (a +ℤ b)) (a +ℤ b) place.north
  north_near h = reached place.north place.east (subst (λ (z : ℤ). z ≤ℤ ((a +ℤ b) *ℤ (a +ℤ b))) (swap (place.east *ℤ place.east) (place.north *ℤ place.north)) (flat_near h))
    where
      swap : (x y : ℤ) → x +ℤ y ≡ y +ℤ x
      swap x y = omega (arith, ints)

-- the height
pub up_near : (leg : Leg) (volume : Volume) (n d speed : ℤ) → pos 1 ≤ℤ d → pos 0 ≤ℤ speed → pos (unsigned_abs leg.velocity.up) ≤ℤ speed
    → ViolatesVertically leg volume n d → IsFrom (neg_ℤ (pos volume.zthr *ℤ d +ℤ pos volume.tcoa *ℤ d *ℤ speed))
    (pos volume.zthr *ℤ d +ℤ pos volume.tcoa *ℤ d *ℤ speed) (height_at leg n d)
up_near leg volume n d speed d1 s0 slow h = both (height_at leg n d) _ (⊎_elim
    (λ l. grow_left _ _ _ (mul_nonneg (pos volume.tcoa *ℤ d) speed cd0 s0) l)
    (λ l. grow_right _ _ _ (mul_nonneg (pos volume.zthr) d (omega (arith, ints)) (omega (arith, ints))) (le_trans_ℤ _ _ _ l.soon (mul_le_left (pos volume.tcoa *ℤ d) _ _ cd0 slow)))
    h)
  where
    cd0 : pos 0 ≤ℤ (pos volume.tcoa *ℤ d)
    cd0 = mul_nonneg (pos volume.tcoa) d (omega (arith, ints)) (omega (arith, ints))

    both : (x y : ℤ) → pos (unsigned_abs x) ≤ℤ y → IsFrom (neg_ℤ y) y x
    both x y h = record { least = omega (arith, ints); most = omega (arith, ints) }

    grow_left : (x y z : ℤ) → pos 0 ≤ℤ z → x ≤ℤ y → x ≤ℤ (y +ℤ z)
    grow_left x y z h k = omega (arith, ints)

    grow_right : (x y z : ℤ) → pos 0 ≤ℤ y → x ≤ℤ z → x ≤ℤ (y +ℤ z)
    grow_right x y z h k = omega (arith, ints)
