-- Where a leg violates horizontally at any time between two times, it does so at a time of least distance between them; by tau, at
-- that time or at one at which the quadratic of tau is least.
use Rattle.std.proofs.Common.{List, [], ◌∷◌, ◌≡◌, ◌⊎◌, inl, inr, ⊎_elim, refl, subst, ◌∙◌, arith, ℕ, ◌*◌, ◌<◌, ◌≤◌, ℤ, pos, negsuc, ◌+ℤ◌, ◌*ℤ◌, ◌-ℤ◌, neg_ℤ, ◌≤ℤ◌, ◌<ℤ◌, unsigned_abs, ◌^◌}
use Rattle.std.proofs.lemmas.Int.{ints, by_lt_z}
use Rattle.daa_fixed.proofs.Ring.{mul_nonneg, square_nonneg, ring, Poly, #, lit, ⊝, ◌⊕◌, ◌⊖◌, ◌⊗◌}
use Rattle.daa_fixed.proofs.Integers.{mul_pos, cancel_le, rest, by_rest, le_trans_ℤ, sum_nonneg}
use Rattle.daa_fixed.proofs.Lengths.{nearing_moves}
use Rattle.daa_taumod.proofs.ClosestApproach.{passes_near-always, rate_later, entry_is}
use Rattle.daa_detect.proofs.Distance.{IsDistance}
use Rattle.daa_detect.proofs.Approach.{tau_still_soon, closest_still_soon, later_still_near}
use Rattle.daa_fixed.specs.declared.Leg.{Leg}
use Rattle.daa_taumod.specs.declared.Model.{Model}
use Rattle.daa_taumod.specs.declared.Model.TheVariants.{Tau, Tcpa, Taumod, Tep}
use Rattle.daa_taumod.specs.declared.Volume.{Volume}
use Rattle.daa_fixed.specs.declared.Point.{Point}
use Rattle.daa_quad.specs.declared.Quad.{Quad}
use Rattle.daa_fixed.specs.Flat.{dot_of, cross_of, square_of}
use Rattle.daa_taumod.specs.Volume.{place_at, IsNear, IsClosing, IsSoon, ViolatesHorizontally, ViolatesVertically, Violates}
use Rattle.daa_fixed.specs.Time.{IsTime, HoldsNever}
use Rattle.daa_vwindow.specs.Window.{IsWindow}
use Rattle.std.proofs.lemmas.Nat.{mul-le}
use Rattle.daa_fixed.specs.Point.{IsBetween}
use Rattle.daa_quad.specs.Quad.{value_of, IsLeast}

-- places and velocities
abbrev pub E : Poly
E = # 0

abbrev pub N : Poly
N = # 1

abbrev pub VE : Poly
VE = # 2

abbrev pub VN : Poly
VN = # 3

abbrev pub R : Poly
R = # 4

abbrev pub K : Poly
K = # 5

abbrev pub D : Poly
D = # 6

abbrev pub SE : Poly
SE = D ⊗ E ⊕ K ⊗ VE

abbrev pub SN : Poly
SN = D ⊗ N ⊕ K ⊗ VN

abbrev pub VV : Poly
VV = VE ⊗ VE ⊕ VN ⊗ VN

abbrev pub SV : Poly
SV = E ⊗ VE ⊕ N ⊗ VN

abbrev pub CC : Poly
CC = E ⊗ VN ⊖ N ⊗ VE

-- x / l is at most y / k, and y is not above 0; then neither is x
pub no_higher : (x k y l : ℤ) → pos 0 <ℤ k → pos 0 ≤ℤ l → (x *ℤ k) ≤ℤ (y *ℤ l) → y ≤ℤ pos 0 → x ≤ℤ pos 0
no_higher x k y l k1 l0 h y0 =
    let X = # 0 in let K = # 1 in let Y = # 2 in let L = # 3 in
    negated x (cancel_le k (neg_ℤ x) k1
    (subst (λ (z : ℤ). pos 0 ≤ℤ z) (ring (x ∷ k ∷ y ∷ l ∷ []) ((Y ⊗ L ⊖ X ⊗ K) ⊕ ⊝ Y ⊗ L) (K ⊗ ⊝ X) tt)
    (sum_nonneg (y *ℤ l -ℤ x *ℤ k) (neg_ℤ y *ℤ l) (rest (x *ℤ k) (y *ℤ l) h) (mul_nonneg (neg_ℤ y) l (omega (arith, ints)) l0))))
  where
    negated : (x : ℤ) → pos 0 ≤ℤ neg_ℤ x → x ≤ℤ pos 0
    negated x h = omega (arith, ints)

module _ (leg : Leg) (volume : Volume) where
  abbrev pub vv : ℤ
  vv = dot_of leg.velocity.flat leg.velocity.flat

  abbrev pub sv : ℤ
  sv = dot_of leg.place.flat leg.velocity.flat

  abbrev pub cc : ℤ
  cc = cross_of leg.place.flat leg.velocity.flat

  abbrev pub pp : ℤ → ℤ → ℤ
  pp n d = dot_of (place_at leg n d) (place_at leg n d)

  abbrev pub pv : ℤ → ℤ → ℤ
  pv n d = dot_of (place_at leg n d) leg.velocity.flat

  abbrev all : ℤ → ℤ → List ℤ
  all n d = leg.place.flat.east ∷ leg.place.flat.north ∷ leg.velocity.flat.east ∷ leg.velocity.flat.north ∷ pos volume.dthr ∷ n ∷ d ∷ []

  products : (n d : ℤ) → vv *ℤ pp n d ≡ pv n d *ℤ pv n d +ℤ (d *ℤ cc) *ℤ (d *ℤ cc)
  products n d = ring (all n d) (VV ⊗ (SE ⊗ SE ⊕ SN ⊗ SN)) ((SE ⊗ VE ⊕ SN ⊗ VN) ⊗ (SE ⊗ VE ⊕ SN ⊗ VN) ⊕ (D ⊗ CC) ⊗ (D ⊗ CC)) tt

  pub dot_at : (n d : ℤ) → pv n d ≡ d *ℤ sv +ℤ n *ℤ vv
  dot_at n d = ring (all n d) (SE ⊗ VE ⊕ SN ⊗ VN) (D ⊗ SV ⊕ K ⊗ VV) tt

  module _ (q : Quad) (is : IsDistance leg volume q) where
    value_is : (n d : ℤ) → value_of q n d ≡ pp n d -ℤ square_of (pos volume.dthr *ℤ d)
    value_is n d =
        (λ i. is.a i *ℤ n *ℤ n +ℤ is.b i *ℤ n *ℤ d +ℤ is.c i *ℤ d *ℤ d)
        ∙ ring (all n d) (VV ⊗ K ⊗ K ⊕ (lit (pos 2) ⊗ SV) ⊗ K ⊗ D ⊕ ((E ⊗ E ⊕ N ⊗ N) ⊖ R ⊗ R) ⊗ D ⊗ D) (SE ⊗ SE ⊕ SN ⊗ SN ⊖ (R ⊗ D) ⊗ (R ⊗ D)) tt

    near_by_value : (n d : ℤ) → value_of q n d ≤ℤ pos 0 → IsNear leg volume n d
    near_by_value n d h = to_le (pp n d) (square_of (pos volume.dthr *ℤ d)) (rw (value_is n d) at h)
      where
        to_le : (x y : ℤ) → (x -ℤ y) ≤ℤ pos 0 → x ≤ℤ y
        to_le x y h = omega (arith, ints)

    value_if_near : (n d : ℤ) → IsNear leg volume n d → value_of q n d ≤ℤ pos 0
    value_if_near n d h = rw (value_is n d) (to_loss (pp n d) (square_of (pos volume.dthr *ℤ d)) h)
      where
        to_loss : (x y : ℤ) → x ≤ℤ y → (x -ℤ y) ≤ℤ pos 0
        to_loss x y h = omega (arith, ints)

    module _ (p r m : Point)
        (p1 : pos 1 ≤ℤ p.den) (r1 : pos 1 ≤ℤ r.den) (m1 : pos 1 ≤ℤ m.den) (mb : IsBetween p r m.num m.den)
        (least : IsLeast q p r m.num m.den) (n d : ℤ) (b : IsBetween p r n d) where
      d1 : pos 0 <ℤ d
      d1 = omega (arith, ints, b.fraction)

      e1 : pos 0 <ℤ m.den
      e1 = omega (arith, ints)

      pub near_there : IsNear leg volume n d → IsNear leg volume m.num m.den
      near_there h = near_by_value m.num m.den
          (no_higher (value_of q m.num m.den) (d *ℤ d) (value_of q n d) (m.den *ℤ m.den) (mul_pos d d d1 d1) (square_nonneg m.den) (least n d b) (value_if_near n d h))

      module _ (c : IsClosing leg volume n d) where
        moving : pos 0 <ℤ vv
        moving = nearing_moves (place_at leg n d) leg.velocity.flat c.nearing

        -- the line passes near, whatever the time
        passes : square_of cc ≤ℤ (square_of (pos volume.dthr) *ℤ vv)
        passes = (passes_near-always leg volume n d b.fraction).1 c.near

        nearer : ((pp m.num m.den -ℤ square_of (pos volume.dthr *ℤ m.den)) *ℤ (d *ℤ d)) ≤ℤ ((pp n d -ℤ square_of (pos volume.dthr *ℤ d)) *ℤ (m.den *ℤ m.den))
        nearer = subst (λ (x : ℤ). (x *ℤ (d *ℤ d)) ≤ℤ ((pp n d -ℤ square_of (pos volume.dthr *ℤ d)) *ℤ (m.den *ℤ m.den))) (value_is m.num m.den)
            (subst (λ (x : ℤ). (value_of q m.num m.den *ℤ (d *ℤ d)) ≤ℤ (x *ℤ (m.den *ℤ m.den))) (value_is n d) (least n d b))

        closest_there : IsSoon Tcpa leg volume n d → pv m.num m.den <ℤ pos 0 → IsSoon Tcpa leg volume m.num m.den
        closest_there s h =
            closest_still_soon vv cc (pos volume.dthr) (pos volume.tthr) d m.den (pp n d) (pp m.num m.den)
            (pv n d) (pv m.num m.den) moving d1 e1 (products n d) (products m.num m.den) c.nearing h nearer s

        -- tthr seconds later
        abbrev after : ℤ
        after = n +ℤ pos volume.tthr *ℤ d

        abbrev after' : ℤ
        after' = m.num +ℤ pos volume.tthr *ℤ m.den

        near_after : IsNear leg volume after d → pv m.num m.den <ℤ pos 0 → pv after' m.den <ℤ pos 0 → IsNear leg volume after' m.den
        near_after near h falls =
            later_still_near vv cc (pos volume.dthr) (pos volume.tthr) d m.den (pp n d) (pp m.num m.den) (pv n d) (pv m.num m.den) moving d1 e1 (products n d) (products m.num m.den) c.nearing h nearer
            (pp after d) (pp after' m.den) (pv after d) (pv after' m.den) (products after d) (products after' m.den) (rate_later leg volume n d) (rate_later leg volume m.num m.den) falls near

        -- before the closest approach it still comes near in time, but by tau
        soon_there : (model : Model) → ¬ (model ≡ Tau) → IsSoon model leg volume n d → pv m.num m.den <ℤ pos 0 → IsSoon model leg volume m.num m.den
        soon_there Tau other s h = absurd (other refl)
        soon_there Tcpa other s h = closest_there s h
        soon_there Taumod other s h =
            tau_still_soon vv cc (pos volume.dthr) (pos volume.tthr) d m.den (pp n d) (pp m.num m.den) (pv n d)
            (pv m.num m.den) moving d1 e1 (products n d) (products m.num m.den) c.nearing h nearer (rest _ _ passes) s
        soon_there Tep other s h = ⊎_elim
            (λ closest. (entry_is leg volume m.num m.den).1 (inl (closest_there closest h)))
            (λ near. by_lt_z (pv after' m.den) (pos 0) (λ falls. inr (near_after near h falls)) (λ grows. inl grows))
            ((entry_is leg volume n d).0 s)

        early : ¬ (volume.model ≡ Tau) → pv m.num m.den <ℤ pos 0 → IsClosing leg volume m.num m.den
        early other h = record {
          nearing = h;
          soon = soon_there volume.model other c.soon h;
          near = (passes_near-always leg volume m.num m.den m1).0 passes;
        }

        -- from the closest approach on, that lies between the two, and is near
        approach_between : pos 0 ≤ℤ pv m.num m.den → IsBetween p r (neg_ℤ sv) vv
        approach_between h = record {
          fraction = omega (arith, ints, moving);
          from = by_rest _ _ _ refl (cancel_le d _ d1
              (subst (λ (z : ℤ). pos 0 ≤ℤ z) (first_part p.num p.den d sv vv n)
              (sum_nonneg _ _ (mul_nonneg p.den _
              (omega (arith, ints)) (negative (d *ℤ sv +ℤ n *ℤ vv) (rw (dot_at n d) at c.nearing)))
              (mul_nonneg vv _ (omega (arith, ints, moving)) (rest _ _ b.from)))));
          upto = by_rest _ _ _ refl (cancel_le m.den _ e1
              (subst (λ (z : ℤ). pos 0 ≤ℤ z) (last_part r.num r.den m.den sv vv m.num)
              (sum_nonneg _ _ (mul_nonneg vv _ (omega (arith, ints, moving)) (rest _ _ mb.upto)) (mul_nonneg r.den _ (omega (arith, ints)) (rw (dot_at m.num m.den) at h)))));
        }
          where
            negative : (x : ℤ) → x <ℤ pos 0 → pos 0 ≤ℤ neg_ℤ x
            negative x h = omega (arith, ints)

            first_part : (pn pd d s v n : ℤ) → pd *ℤ neg_ℤ (d *ℤ s +ℤ n *ℤ v) +ℤ v *ℤ (n *ℤ pd -ℤ pn *ℤ d) ≡ d *ℤ (neg_ℤ s *ℤ pd -ℤ pn *ℤ v)
            first_part pn pd d s v n =
                ring (pn ∷ pd ∷ d ∷ s ∷ v ∷ n ∷ []) (# 1 ⊗ ⊝ (# 2 ⊗ # 3 ⊕ # 5 ⊗ # 4) ⊕ # 4 ⊗ (# 5 ⊗ # 1 ⊖ # 0 ⊗ # 2)) (# 2 ⊗ (⊝ (# 3) ⊗ # 1 ⊖ # 0 ⊗ # 4)) tt

            last_part : (rn rd e s v m : ℤ) → v *ℤ (rn *ℤ e -ℤ m *ℤ rd) +ℤ rd *ℤ (e *ℤ s +ℤ m *ℤ v) ≡ e *ℤ (rn *ℤ v -ℤ neg_ℤ s *ℤ rd)
            last_part rn rd e s v m =
                ring (rn ∷ rd ∷ e ∷ s ∷ v ∷ m ∷ []) (# 4 ⊗ (# 0 ⊗ # 2 ⊖ # 5 ⊗ # 1) ⊕ # 1 ⊗ (# 2 ⊗ # 3 ⊕ # 5 ⊗ # 4)) (# 2 ⊗ (# 0 ⊗ # 4 ⊖ ⊝ (# 3) ⊗ # 1)) tt

        approach_near : value_of q (neg_ℤ sv) vv ≤ℤ pos 0
        approach_near = below (value_of q (neg_ℤ sv) vv) (vv *ℤ (pos volume.dthr *ℤ pos volume.dthr *ℤ vv -ℤ cc *ℤ cc)) shape (mul_nonneg vv _ (omega (arith, ints, moving)) (rest _ _ passes))
          where
            below : (x y : ℤ) → x ≡ neg_ℤ y → pos 0 ≤ℤ y → x ≤ℤ pos 0
            below x y e h = omega (arith, ints)

            shape : value_of q (neg_ℤ sv) vv ≡ neg_ℤ (vv *ℤ (pos volume.dthr *ℤ pos volume.dthr *ℤ vv -ℤ cc *ℤ cc))
            shape =
                (λ i. is.a i *ℤ neg_ℤ sv *ℤ neg_ℤ sv +ℤ is.b i *ℤ neg_ℤ sv *ℤ vv +ℤ is.c i *ℤ vv *ℤ vv)
                ∙ ring (all n d) (VV ⊗ ⊝ SV ⊗ ⊝ SV ⊕ (lit (pos 2) ⊗ SV) ⊗ ⊝ SV ⊗ VV ⊕ ((E ⊗ E ⊕ N ⊗ N) ⊖ R ⊗ R) ⊗ VV ⊗ VV) (⊝ (VV ⊗ (R ⊗ R ⊗ VV ⊖ CC ⊗ CC))) tt

        late : pos 0 ≤ℤ pv m.num m.den → IsNear leg volume m.num m.den
        late h = near_by_value m.num m.den
            (no_higher (value_of q m.num m.den) (vv *ℤ vv) (value_of q (neg_ℤ sv) vv) (m.den *ℤ m.den)
            (mul_pos vv vv moving moving) (square_nonneg m.den) (least (neg_ℤ sv) vv (approach_between h))
            approach_near)

      -- from the closest approach on, by each model
      pub violates_late : pos 0 ≤ℤ pv m.num m.den → ViolatesHorizontally leg volume n d → ViolatesHorizontally leg volume m.num m.den
      violates_late up v = ⊎_elim (λ h. inl (near_there h)) (λ c. inl (late c up)) v

      pub violates_there : ¬ (volume.model ≡ Tau) → ViolatesHorizontally leg volume n d → ViolatesHorizontally leg volume m.num m.den
      violates_there other v = ⊎_elim
          (λ h. inl (near_there h))
          (λ c. by_lt_z (pv m.num m.den) (pos 0) (λ h. inr (early c other h)) (λ h. inl (late c h)))
          v

-- ---- times between two times
until : (secs : ℕ) (p r : Point) (n d : ℤ) → pos 1 ≤ℤ r.den → IsTime secs r.num r.den → IsBetween p r n d → n ≤ℤ (pos secs *ℤ d)
until secs p r n d r1 last b =
    by_rest n (pos secs *ℤ d) _ refl (cancel_le r.den _ (omega (arith, ints))
    (subst (λ (z : ℤ). pos 0 ≤ℤ z)
    (let N = # 0 in let D = # 1 in let RN = # 2 in let RD = # 3 in let S = # 4 in
    ring (n ∷ d ∷ r.num ∷ r.den ∷ pos secs ∷ []) (D ⊗ (S ⊗ RD ⊖ RN) ⊕ (RN ⊗ D ⊖ N ⊗ RD)) (RD ⊗ (S ⊗ D ⊖ N)) tt)
    (sum_nonneg _ _ (mul_nonneg d _ (omega (arith, ints, b.fraction)) (rest _ _ last.upto)) (rest _ _ b.upto))))

pub time_between : (secs : ℕ) (p r : Point) (n d : ℤ) → pos 1 ≤ℤ r.den → IsTime secs r.num r.den → pos 0 ≤ℤ n → IsBetween p r n d → IsTime secs n d
time_between secs p r n d r1 last n0 b = record { fraction = b.fraction; from = n0; upto = until secs p r n d r1 last b }

-- a vertex between two times of a leg is a point in range
pub vertex_small : (secs : ℕ) (p r : Point) (a b : ℤ) → secs ≤ 180 → pos 1 ≤ℤ r.den → IsTime secs r.num r.den
    → pos 1 ≤ℤ a → unsigned_abs a < 2 ^ 32 → IsBetween p r (neg_ℤ b) (pos 2 *ℤ a) → neg_ℤ b ≤ℤ pos (2 ^ 41)
vertex_small secs p r a b small r1 last a1 a2 between =
    le_trans_ℤ (neg_ℤ b) (pos secs *ℤ (pos 2 *ℤ a)) (pos (2 ^ 41)) (until secs p r (neg_ℤ b) (pos 2 *ℤ a) r1 last between) (big secs a small a1 a2)
  where
    big : (secs : ℕ) (a : ℤ) → secs ≤ 180 → pos 1 ≤ℤ a → unsigned_abs a < 2 ^ 32 → (pos secs *ℤ (pos 2 *ℤ a)) ≤ℤ pos (2 ^ 41)
    big secs (pos a) h k l = omega (arith, ints, mul-le secs (2 * a) 180 (2 * 2 ^ 32) h (omega arith))
    big secs (negsuc a) h k l = absurd (omega (arith, ints))

-- where the leg violates at all, it does so at one of two times of the window
pub none_elsewhere : (leg : Leg) (volume : Volume) (p r m b : Point) → IsWindow leg.secs (ViolatesVertically leg volume) p r → IsBetween p r m.num m.den → IsBetween p r b.num b.den
    → ((n d : ℤ) → IsBetween p r n d → ViolatesHorizontally leg volume n d → ViolatesHorizontally leg volume m.num m.den ⊎ ViolatesHorizontally leg volume b.num b.den)
    → ¬ Violates leg volume m.num m.den → ¬ Violates leg volume b.num b.den → HoldsNever leg.secs (Violates leg volume)
none_elsewhere leg volume p r m b w between between' carry clear clear' n d t v = ⊎_elim
    (λ h. clear (record { horizontal = h; vertical = upright m between }))
    (λ h. clear' (record { horizontal = h; vertical = upright b between' }))
    (carry n d ((w.exact n d t).0 v.vertical) v.horizontal)
  where
    upright : (e : Point) → IsBetween p r e.num e.den → ViolatesVertically leg volume e.num e.den
    upright e h = (w.exact e.num e.den (time_between leg.secs p r e.num e.den r.positive w.last e.not_negative h)).1 h
