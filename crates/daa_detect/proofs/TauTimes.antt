-- The quadratic of tau, s.s + tthr (s.v): what closes soon by tau does so where it is least, and violates there.
use Rattle.std.proofs.Common.{List, [], ◌∷◌, ◌≡◌, ◌↔◌, inl, inr, refl, sym, subst, ◌∙◌, arith, ℤ, pos, ◌+ℤ◌, ◌*ℤ◌, ◌-ℤ◌, neg_ℤ, ◌≤ℤ◌, ◌<ℤ◌}
use Rattle.std.proofs.lemmas.Int.{ints, by_lt_z}
use Rattle.daa_fixed.proofs.Ring.{mul_nonneg, square_nonneg, ring, Poly, #, lit, ⊝, ◌⊕◌, ◌⊖◌, ◌⊗◌}
use Rattle.daa_fixed.proofs.Bounds.{times, plus}
use Rattle.daa_fixed.proofs.Integers.{mul_pos, cancel_le, rest, by_rest}
use Rattle.daa_fixed.proofs.LegSizes as size
use Rattle.daa_fixed.proofs.Lengths.{dot_nonneg}
use Rattle.daa_fixed.specs.declared.Leg.{Leg}
use Rattle.daa_fixed.specs.declared.Point.{Point}
use Rattle.daa_fixed.specs.Flat.{dot_of, square_of}
use Rattle.daa_fixed.specs.Leg.{IsLegInRange}
use Rattle.daa_fixed.specs.Point.{IsBetween}
use Rattle.daa_fixed.specs.Size.{IsWithin}
use Rattle.daa_quad.specs.declared.Quad.{Quad}
use Rattle.daa_quad.specs.Quad.{value_of, IsLeast}
use Rattle.daa_quad.specs.Inside.Slope.{slope_of}
use Rattle.daa_taumod.specs.declared.Model.{Model}
use Rattle.daa_taumod.specs.declared.Model.TheVariants.{Tau}
use Rattle.daa_taumod.specs.declared.Volume.{Volume}
use Rattle.daa_taumod.specs.Volume.{IsVolumeInRange, IsSoon, PassesNear, ViolatesHorizontally}
use Rattle.daa_detect.proofs.NearestTimes.{E, N, VE, VN, K, D, SE, SN, VV, SV, CC, vv, sv, cc, pp, pv, no_higher}

-- the quadratic whose value is s.s + tthr (s.v)
pub record IsTauQuad (leg : Leg) (volume : Volume) (q : Quad) : Type 0 where
  pub a : q.a ≡ vv leg volume
  pub b : q.b ≡ pos 2 *ℤ sv leg volume +ℤ pos volume.tthr *ℤ vv leg volume
  pub c : q.c ≡ dot_of leg.place.flat leg.place.flat +ℤ pos volume.tthr *ℤ sv leg volume

-- of a leg and a volume in range its numbers are in range
pub record HasTauQuad (leg : Leg) (volume : Volume) : Type 0 where
  pub quad : Quad
  pub is : IsTauQuad leg volume quad

pub tau_quad : (leg : Leg) (volume : Volume) → IsLegInRange leg → IsVolumeInRange volume → HasTauQuad leg volume
tau_quad leg volume r v =
    let wa = size.vv r in
    let wt = size.natural 120 volume.tthr v.tthr in
    let wb = plus (times two (size.sv r)) (times wt (size.vv r)) in
    let wc = plus (size.ss r) (times wt (size.sv r)) in
    record {
      quad = record {
        a = vv leg volume;
        b = pos 2 *ℤ sv leg volume +ℤ pos volume.tthr *ℤ vv leg volume;
        c = dot_of leg.place.flat leg.place.flat +ℤ pos volume.tthr *ℤ sv leg volume;
        convex = dot_nonneg leg.velocity.flat;
        a_bound = omega (arith, wa.size);
        b_bound = omega (arith, wb.size);
        c_bound = omega (arith, wc.size);
      };
      is = record { a = refl; b = refl; c = refl };
    }
  where
    two : IsWithin 2 (pos 2)
    two = record { size = omega arith }

abbrev T : Poly
T = # 7

abbrev B : Poly
B = lit (pos 2) ⊗ SV ⊕ T ⊗ VV

module _ (leg : Leg) (volume : Volume) where
  abbrev ρ : ℤ → ℤ → List ℤ
  ρ n d = leg.place.flat.east ∷ leg.place.flat.north ∷ leg.velocity.flat.east ∷ leg.velocity.flat.north ∷ pos volume.dthr ∷ n ∷ d ∷ pos volume.tthr ∷ []

  -- what is soon by tau, on a line that passes near, violates: where the distance does not fall, it is 0
  pub soon_violates : volume.model ≡ Tau → (n d : ℤ) → pos 1 ≤ℤ d → PassesNear leg volume n d → IsSoon Tau leg volume n d → ViolatesHorizontally leg volume n d
  soon_violates e n d d1 passes soon = by_lt_z (pv leg volume n d) (pos 0)
      (λ falls. inr (record { nearing = falls; soon = subst (λ (w : Model). IsSoon w leg volume n d) (sym e) soon; near = passes }))
      (λ grows. inl (near (pp leg volume n d) (pos volume.tthr *ℤ d *ℤ pv leg volume n d) (square_of (pos volume.dthr *ℤ d)) soon
      (mul_nonneg (pos volume.tthr *ℤ d) (pv leg volume n d) (mul_nonneg (pos volume.tthr) d (omega (arith, ints)) (omega (arith, ints, d1))) grows) (square_nonneg (pos volume.dthr *ℤ d))))
    where
      near : (x y z : ℤ) → (x +ℤ y) ≤ℤ pos 0 → pos 0 ≤ℤ y → pos 0 ≤ℤ z → x ≤ℤ z
      near x y z h k l = omega (arith, ints)

  module _ (q : Quad) (is : IsTauQuad leg volume q) where
    value_is : (n d : ℤ) → value_of q n d ≡ pp leg volume n d +ℤ pos volume.tthr *ℤ d *ℤ pv leg volume n d
    value_is n d =
        (λ i. is.a i *ℤ n *ℤ n +ℤ is.b i *ℤ n *ℤ d +ℤ is.c i *ℤ d *ℤ d)
        ∙ ring (ρ n d) (VV ⊗ K ⊗ K ⊕ (lit (pos 2) ⊗ SV ⊕ T ⊗ VV) ⊗ K ⊗ D ⊕ ((E ⊗ E ⊕ N ⊗ N) ⊕ T ⊗ SV) ⊗ D ⊗ D) ((SE ⊗ SE ⊕ SN ⊗ SN) ⊕ T ⊗ D ⊗ (SE ⊗ VE ⊕ SN ⊗ VN)) tt

    pub soon_by_value : (n d : ℤ) → value_of q n d ≤ℤ pos 0 → IsSoon Tau leg volume n d
    soon_by_value n d h = subst (λ (z : ℤ). z ≤ℤ pos 0) (value_is n d) h

    pub value_if_soon : (n d : ℤ) → IsSoon Tau leg volume n d → value_of q n d ≤ℤ pos 0
    value_if_soon n d h = subst (λ (z : ℤ). z ≤ℤ pos 0) (sym (value_is n d)) h

    -- twice the rate half of tthr later
    pub slope_is : (n d : ℤ) → slope_of q n d ≡ pos 2 *ℤ pv leg volume n d +ℤ pos volume.tthr *ℤ d *ℤ vv leg volume
    slope_is n d =
        (λ i. pos 2 *ℤ is.a i *ℤ n +ℤ is.b i *ℤ d)
        ∙ ring (ρ n d) (lit (pos 2) ⊗ VV ⊗ K ⊕ (lit (pos 2) ⊗ SV ⊕ T ⊗ VV) ⊗ D) (lit (pos 2) ⊗ (SE ⊗ VE ⊕ SN ⊗ VN) ⊕ T ⊗ D ⊗ VV) tt

    -- soon by tau at a time between two times, and so at one where the quadratic is least
    pub soon_at_least : (p r : Point) (m e : ℤ) → IsLeast q p r m e → (n d : ℤ) → IsBetween p r n d → IsSoon Tau leg volume n d → IsSoon Tau leg volume m e
    soon_at_least p r m e least n d between soon =
        soon_by_value m e (no_higher (value_of q m e) (d *ℤ d) (value_of q n d) (e *ℤ e) (mul_pos d d d1 d1) (square_nonneg e) (least n d between) (value_if_soon n d soon))
      where
        d1 : pos 0 <ℤ d
        d1 = omega (arith, ints, between.fraction)

    -- at its vertex: the line comes within half of the way of tthr seconds
    vertex_value : value_of q (neg_ℤ q.b) (pos 2 *ℤ q.a) ≡ q.a *ℤ (square_of (pos 2 *ℤ cc leg volume) -ℤ square_of (pos volume.tthr *ℤ vv leg volume))
    vertex_value =
        (λ i. is.a i *ℤ neg_ℤ (is.b i) *ℤ neg_ℤ (is.b i) +ℤ is.b i *ℤ neg_ℤ (is.b i) *ℤ (pos 2 *ℤ is.a i) +ℤ is.c i *ℤ (pos 2 *ℤ is.a i) *ℤ (pos 2 *ℤ is.a i))
        ∙ ring (ρ (pos 0) (pos 0))
        (VV ⊗ ⊝ B ⊗ ⊝ B ⊕ B ⊗ ⊝ B ⊗ (lit (pos 2) ⊗ VV) ⊕ ((E ⊗ E ⊕ N ⊗ N) ⊕ T ⊗ SV) ⊗ (lit (pos 2) ⊗ VV) ⊗ (lit (pos 2) ⊗ VV))
        (VV ⊗ ((lit (pos 2) ⊗ CC) ⊗ (lit (pos 2) ⊗ CC) ⊖ (T ⊗ VV) ⊗ (T ⊗ VV)))
        tt
        ∙ sym (λ i. is.a i *ℤ (square_of (pos 2 *ℤ cc leg volume) -ℤ square_of (pos volume.tthr *ℤ vv leg volume)))

    pub soon_at_vertex : pos 0 <ℤ q.a → IsSoon Tau leg volume (neg_ℤ q.b) (pos 2 *ℤ q.a) ↔ (square_of (pos 2 *ℤ cc leg volume) ≤ℤ square_of (pos volume.tthr *ℤ vv leg volume))
    soon_at_vertex a1 = (
      (λ soon. by_rest _ _ _ refl (cancel_le q.a _ a1
          (under q.a (square_of (pos 2 *ℤ cc leg volume)) (square_of (pos volume.tthr *ℤ vv leg volume))
          (subst (λ (z : ℤ). z ≤ℤ pos 0) vertex_value (value_if_soon _ _ soon))))),
      (λ h. soon_by_value _ _
          (subst (λ (z : ℤ). z ≤ℤ pos 0) (sym vertex_value) (over q.a (square_of (pos 2 *ℤ cc leg volume))
          (square_of (pos volume.tthr *ℤ vv leg volume)) (mul_nonneg q.a _ (omega (arith, ints)) (rest _ _ h))))),
    )
      where
        under : (a x y : ℤ) → (a *ℤ (x -ℤ y)) ≤ℤ pos 0 → pos 0 ≤ℤ (a *ℤ (y -ℤ x))
        under a x y h = by_rest _ _ _ (turn a x y) (rest _ _ h)
          where
            turn : (a x y : ℤ) → a *ℤ (y -ℤ x) -ℤ pos 0 ≡ pos 0 -ℤ a *ℤ (x -ℤ y)
            turn a x y = ring (a ∷ x ∷ y ∷ []) (# 0 ⊗ (# 2 ⊖ # 1) ⊖ lit (pos 0)) (lit (pos 0) ⊖ # 0 ⊗ (# 1 ⊖ # 2)) tt

        over : (a x y : ℤ) → pos 0 ≤ℤ (a *ℤ (y -ℤ x)) → (a *ℤ (x -ℤ y)) ≤ℤ pos 0
        over a x y h = by_rest _ _ _ (ring (a ∷ x ∷ y ∷ []) (lit (pos 0) ⊖ # 0 ⊗ (# 1 ⊖ # 2)) (# 0 ⊗ (# 2 ⊖ # 1)) tt) h
