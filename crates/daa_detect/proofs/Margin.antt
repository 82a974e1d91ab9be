-- What the margin of a line says of its times: the tests on rates are those of the volume, times v.v.
use Rattle.std.proofs.Common.{List, [], ◌∷◌, ◌≡◌, ◌↔◌, ◌⊎◌, inl, inr, ⊎_elim, zero, suc, negsuc, refl, sym, subst, ◌∙◌, arith, ℕ, ℤ, pos, ◌+ℤ◌, ◌*ℤ◌, ◌-ℤ◌, neg_ℤ, ◌≤ℤ◌, ◌<ℤ◌}
use Rattle.std.proofs.lemmas.Int.{ints}
use Rattle.daa_fixed.proofs.Ring.{mul_nonneg, square_nonneg, ring, Poly, #, lit, ⊝, ◌⊕◌, ◌⊖◌, ◌⊗◌}
use Rattle.daa_fixed.proofs.Integers.{mul_pos, cancel_le, rest, by_rest, clash, sum_nonneg}
use Rattle.daa_fixed.specs.declared.Leg.{Leg}
use Rattle.daa_fixed.specs.Flat.{dot_of, square_of}
use Rattle.std.proofs.Math.IntN.{*ℤ-zero}
use Rattle.daa_taumod.specs.declared.Model.{Model}
use Rattle.daa_taumod.specs.declared.Model.TheVariants.{Tau, Tcpa, Taumod, Tep}
use Rattle.daa_taumod.specs.declared.Volume.{Volume}
use Rattle.daa_taumod.specs.Volume.{place_at, IsNear, IsClosing, IsSoon, PassesNear, ViolatesHorizontally}
use Rattle.daa_fixed.proofs.Lengths.{lagrange, nearing_moves}
use Rattle.daa_taumod.proofs.ClosestApproach.{passes_near-always, modified_entry}
use Rattle.daa_detect.specs.declared.motion.Motion.{Motion}
use Rattle.daa_detect.specs.Inside.Motion.{IsMotion, IsTauWithin, IsModifiedTauWithin, IsEntryWithin, rate_of, later_rate_of}
use Rattle.daa_detect.proofs.NearestTimes.{E, N, VE, VN, R, K, D, SE, SN, VV, SV, CC, pp, pv, vv, sv, cc, dot_at}

abbrev S : Poly
S = # 7

abbrev W : Poly
W = D ⊗ SV ⊕ K ⊗ VV

module _ (leg : Leg) (volume : Volume) (m : Motion) (is : IsMotion leg volume m) (n d : ℤ) where
  abbrev ρ : ℕ → List ℤ
  ρ secs = leg.place.flat.east ∷ leg.place.flat.north ∷ leg.velocity.flat.east ∷ leg.velocity.flat.north ∷ pos volume.dthr ∷ n ∷ d ∷ pos secs ∷ []

  pub rate_is : rate_of m n d ≡ pv leg volume n d
  rate_is = (λ i. d *ℤ is.rate i +ℤ n *ℤ is.speed_squared i) ∙ sym (dot_at leg volume n d)

  -- what is left of dthr after secs seconds, times v.v
  left : (secs : ℕ) → d *ℤ d *ℤ m.margin -ℤ rate_of m n d *ℤ (rate_of m n d +ℤ pos secs *ℤ d *ℤ m.speed_squared)
      ≡ vv leg volume *ℤ (square_of (pos volume.dthr *ℤ d) -ℤ (pp leg volume n d +ℤ pos secs *ℤ d *ℤ pv leg volume n d))
  left secs =
      (λ i. d *ℤ d *ℤ is.margin i -ℤ (d *ℤ is.rate i +ℤ n *ℤ is.speed_squared i) *ℤ (d *ℤ is.rate i +ℤ n *ℤ is.speed_squared i +ℤ pos secs *ℤ d *ℤ is.speed_squared i))
      ∙ ring (ρ secs) (D ⊗ D ⊗ (R ⊗ R ⊗ VV ⊖ CC ⊗ CC) ⊖ W ⊗ (W ⊕ S ⊗ D ⊗ VV)) (VV ⊗ ((R ⊗ D) ⊗ (R ⊗ D) ⊖ ((SE ⊗ SE ⊕ SN ⊗ SN) ⊕ S ⊗ D ⊗ (SE ⊗ VE ⊕ SN ⊗ VN)))) tt

  -- what is left of 0 after secs seconds, times v.v
  left_of_none : (secs : ℕ) → neg_ℤ (square_of (d *ℤ cc leg volume)) -ℤ rate_of m n d *ℤ (rate_of m n d +ℤ pos secs *ℤ d *ℤ m.speed_squared)
      ≡ vv leg volume *ℤ (pos 0 -ℤ (pp leg volume n d +ℤ pos secs *ℤ d *ℤ pv leg volume n d))
  left_of_none secs =
      (λ i. neg_ℤ (square_of (d *ℤ cc leg volume)) -ℤ (d *ℤ is.rate i +ℤ n *ℤ is.speed_squared i) *ℤ (d *ℤ is.rate i +ℤ n *ℤ is.speed_squared i +ℤ pos secs *ℤ d *ℤ is.speed_squared i))
      ∙ ring (ρ secs) (⊝ ((D ⊗ CC) ⊗ (D ⊗ CC)) ⊖ W ⊗ (W ⊕ S ⊗ D ⊗ VV)) (VV ⊗ (lit (pos 0) ⊖ ((SE ⊗ SE ⊕ SN ⊗ SN) ⊕ S ⊗ D ⊗ (SE ⊗ VE ⊕ SN ⊗ VN)))) tt

  -- what moves
  module _ (moves : pos 0 <ℤ vv leg volume) where
    pub modified_tau_is : (secs : ℕ) → IsModifiedTauWithin m secs n d ↔ ((pp leg volume n d +ℤ pos secs *ℤ d *ℤ pv leg volume n d) ≤ℤ square_of (pos volume.dthr *ℤ d))
    modified_tau_is secs = (
      (λ h. by_rest _ _ _ refl (cancel_le (vv leg volume) _ moves (subst (λ (z : ℤ). pos 0 ≤ℤ z) (left secs) (rest _ _ h)))),
      (λ h. by_rest _ _ _ (left secs) (mul_nonneg (vv leg volume) _ (omega (arith, ints, moves)) (rest _ _ h))),
    )

    pub tau_is : (secs : ℕ) → IsTauWithin leg m secs n d ↔ ((pp leg volume n d +ℤ pos secs *ℤ d *ℤ pv leg volume n d) ≤ℤ pos 0)
    tau_is secs = (
      (λ h. by_rest _ _ _ refl (cancel_le (vv leg volume) _ moves (subst (λ (z : ℤ). pos 0 ≤ℤ z) (left_of_none secs) (rest _ _ h)))),
      (λ h. by_rest _ _ _ (left_of_none secs) (mul_nonneg (vv leg volume) _ (omega (arith, ints, moves)) (rest _ _ h))),
    )

    none_ahead : pp leg volume n d +ℤ pos 0 *ℤ d *ℤ pv leg volume n d ≡ pp leg volume n d
    none_ahead = ring (ρ 0) ((SE ⊗ SE ⊕ SN ⊗ SN) ⊕ lit (pos 0) ⊗ D ⊗ (SE ⊗ VE ⊕ SN ⊗ VN)) (SE ⊗ SE ⊕ SN ⊗ SN) tt

    pub near_is : IsModifiedTauWithin m 0 n d ↔ IsNear leg volume n d
    near_is = subst (λ (z : ℤ). IsModifiedTauWithin m 0 n d ↔ (z ≤ℤ square_of (pos volume.dthr *ℤ d))) none_ahead (modified_tau_is 0)

  -- ---- secs seconds later
  later_is : (secs : ℕ) → later_rate_of m secs n d ≡ rate_of m (n +ℤ pos secs *ℤ d) d
  later_is secs = ring (m.rate ∷ m.speed_squared ∷ n ∷ d ∷ pos secs ∷ []) ((# 3 ⊗ # 0 ⊕ # 2 ⊗ # 1) ⊕ # 4 ⊗ # 3 ⊗ # 1) (# 3 ⊗ # 0 ⊕ (# 2 ⊕ # 4 ⊗ # 3) ⊗ # 1) tt

  doubled : (x s : ℤ) → x *ℤ x ≡ x *ℤ (x +ℤ pos 0 *ℤ d *ℤ s)
  doubled x s = ring (x ∷ d ∷ s ∷ []) (# 0 ⊗ # 0) (# 0 ⊗ (# 0 ⊕ lit (pos 0) ⊗ # 1 ⊗ # 2)) tt

  -- where the line misses, nothing violates
  pub violating_passes : pos 1 ≤ℤ d → ViolatesHorizontally leg volume n d → pos 0 ≤ℤ m.margin
  violating_passes d1 (inl near) = cancel_le (d *ℤ d) m.margin (mul_pos d d (omega (arith, ints)) (omega (arith, ints)))
      (subst (λ (z : ℤ). pos 0 ≤ℤ z) (sym room) (sum_nonneg _ _ (mul_nonneg (vv leg volume) _ vv0 (rest _ _ near)) (square_nonneg (pv leg volume n d))))
    where
      vv0 : pos 0 ≤ℤ vv leg volume
      vv0 = sum_nonneg _ _ (square_nonneg leg.velocity.flat.east) (square_nonneg leg.velocity.flat.north)

      room : d *ℤ d *ℤ m.margin ≡ vv leg volume *ℤ (square_of (pos volume.dthr *ℤ d) -ℤ pp leg volume n d) +ℤ pv leg volume n d *ℤ pv leg volume n d
      room = (λ i. d *ℤ d *ℤ is.margin i)
          ∙ ring (ρ 0) (D ⊗ D ⊗ (R ⊗ R ⊗ VV ⊖ CC ⊗ CC)) (VV ⊗ ((R ⊗ D) ⊗ (R ⊗ D) ⊖ (SE ⊗ SE ⊕ SN ⊗ SN)) ⊕ (SE ⊗ VE ⊕ SN ⊗ VN) ⊗ (SE ⊗ VE ⊕ SN ⊗ VN)) tt
  violating_passes d1 (inr closing) = subst (λ (z : ℤ). pos 0 ≤ℤ z) (sym is.margin) (rest _ _ ((passes_near-always leg volume n d d1).1 closing.near))

  -- ---- where the distance does not fall, only what is near violates
  pub opening_is : pos 0 ≤ℤ rate_of m n d → IsNear leg volume n d ↔ ViolatesHorizontally leg volume n d
  opening_is up = (inl, ⊎_elim (λ h. h) (λ c. absurd (clash _ _ (subst (λ (z : ℤ). pos 0 ≤ℤ z) rate_is up) c.nearing)))

  -- ---- where it falls, on a line that passes near
  module _ (d1 : pos 1 ≤ℤ d) (passes : pos 0 ≤ℤ m.margin) (down : rate_of m n d <ℤ pos 0) where
    falls : pv leg volume n d <ℤ pos 0
    falls = subst (λ (z : ℤ). z <ℤ pos 0) rate_is down

    moves : pos 0 <ℤ vv leg volume
    moves = nearing_moves (place_at leg n d) leg.velocity.flat falls

    passes_near : PassesNear leg volume n d
    passes_near = (passes_near-always leg volume n d d1).0 (by_rest _ _ _ refl (subst (λ (z : ℤ). pos 0 ≤ℤ z) is.margin passes))

    closing : IsSoon volume.model leg volume n d → IsClosing leg volume n d
    closing soon = record { nearing = falls; soon = soon; near = passes_near }

    -- what is near has a modified tau of at most 0
    near_soon : IsNear leg volume n d → IsSoon Taumod leg volume n d
    near_soon near = sooner _ _ _ _ (mul_nonneg (pos volume.tthr) d (omega (arith, ints)) (omega (arith, ints))) falls near
      where
        sooner : (p t u z : ℤ) → pos 0 ≤ℤ t → u <ℤ pos 0 → p ≤ℤ z → (p +ℤ t *ℤ u) ≤ℤ z
        sooner p t u z t0 u0 h =
            by_rest _ _ _ (ring (p ∷ t ∷ u ∷ z ∷ []) (# 3 ⊖ (# 0 ⊕ # 1 ⊗ # 2)) ((# 3 ⊖ # 0) ⊕ # 1 ⊗ ⊝ (# 2)) tt)
            (sum_nonneg _ _ (rest _ _ h) (mul_nonneg t (neg_ℤ u) t0 (omega (arith, ints))))

    pub taumod_is : volume.model ≡ Taumod → IsModifiedTauWithin m volume.tthr n d ↔ ViolatesHorizontally leg volume n d
    taumod_is e = (
      (λ h. inr (closing (subst (λ (k : Model). IsSoon k leg volume n d) (sym e) ((modified_tau_is moves volume.tthr).0 h)))),
      ⊎_elim
          (λ near. (modified_tau_is moves volume.tthr).1 (near_soon near))
          (λ c. (modified_tau_is moves volume.tthr).1 (subst (λ (k : Model). IsSoon k leg volume n d) e c.soon)),
    )

    -- ---- by tau
    soon_by_tau : IsTauWithin leg m volume.tthr n d ↔ IsSoon Tau leg volume n d
    soon_by_tau = tau_is moves volume.tthr

    pub tau_at_is : volume.model ≡ Tau → (IsTauWithin leg m volume.tthr n d ⊎ IsNear leg volume n d) ↔ ViolatesHorizontally leg volume n d
    tau_at_is e = (
      ⊎_elim
          (λ h. inr (closing (subst (λ (k : Model). IsSoon k leg volume n d) (sym e) (soon_by_tau.0 h))))
          inl,
      ⊎_elim
          inr
          (λ c. inl (soon_by_tau.1 (subst (λ (k : Model). IsSoon k leg volume n d) e c.soon))),
    )

    -- ---- by the time to the entry point
    abbrev after : ℤ
    after = n +ℤ pos volume.tthr *ℤ d

    later_rate : later_rate_of m volume.tthr n d ≡ pv leg volume after d
    later_rate = later_is volume.tthr ∙ (λ i. d *ℤ is.rate i +ℤ after *ℤ is.speed_squared i) ∙ sym (dot_at leg volume after d)

    square_later : later_rate_of m volume.tthr n d *ℤ later_rate_of m volume.tthr n d ≡ rate_of m after d *ℤ (rate_of m after d +ℤ pos 0 *ℤ d *ℤ m.speed_squared)
    square_later = (λ i. later_is volume.tthr i *ℤ later_is volume.tthr i) ∙ doubled (rate_of m after d) m.speed_squared

    -- near then
    module _ (near_is : IsModifiedTauWithin m 0 after d ↔ IsNear leg volume after d) where
      entry_soon : IsEntryWithin m volume.tthr n d ↔ IsSoon Tep leg volume n d
      entry_soon = (
        ⊎_elim
            (λ h. inl (subst (λ (z : ℤ). pos 0 ≤ℤ z) later_rate h))
            (λ h. inr (near_is.0 (subst (λ (z : ℤ). z ≤ℤ (d *ℤ d *ℤ m.margin)) square_later h))),
        ⊎_elim
            (λ h. inl (subst (λ (z : ℤ). pos 0 ≤ℤ z) (sym later_rate) h))
            (λ h. inr (subst (λ (z : ℤ). z ≤ℤ (d *ℤ d *ℤ m.margin)) (sym square_later) (near_is.1 h))),
      )

      pub tep_by : volume.model ≡ Tep → IsEntryWithin m volume.tthr n d ↔ ViolatesHorizontally leg volume n d
      tep_by e = (
        (λ h. inr (closing (subst (λ (k : Model). IsSoon k leg volume n d) (sym e) (entry_soon.0 h)))),
        ⊎_elim
            (λ near. entry_soon.1 (modified_entry leg volume n d d1 falls passes_near (near_soon near)))
            (λ c. entry_soon.1 (subst (λ (k : Model). IsSoon k leg volume n d) e c.soon)),
      )

    abbrev IsClosestWithin : Type 0
    IsClosestWithin = neg_ℤ (rate_of m n d) ≤ℤ (pos volume.tthr *ℤ d *ℤ m.speed_squared)

    closest_is : IsClosestWithin ≡ IsSoon Tcpa leg volume n d
    closest_is = λ i. neg_ℤ (rate_is i) ≤ℤ (pos volume.tthr *ℤ d *ℤ is.speed_squared i)

    pub tcpa_is : volume.model ≡ Tcpa → (IsClosestWithin ⊎ IsNear leg volume n d) ↔ ViolatesHorizontally leg volume n d
    tcpa_is e = (
      ⊎_elim
          (λ h. inr (closing (subst (λ (k : Model). IsSoon k leg volume n d) (sym e) (subst (λ (P : Type 0). P) closest_is h))))
          inl,
      ⊎_elim
          inr
          (λ c. inl (subst (λ (P : Type 0). P) (sym closest_is) (subst (λ (k : Model). IsSoon k leg volume n d) e c.soon))),
    )

  -- ---- what does not move is as near as at the beginning
  module _ (still : m.speed_squared ≡ pos 0) where
    no_speed : vv leg volume ≡ pos 0
    no_speed = sym is.speed_squared ∙ still

    no_rate : sv leg volume ≡ pos 0
    no_rate = root_zero (sv leg volume)
        (part _ _ (square_nonneg (cc leg volume))
        (sym (lagrange leg.place.flat leg.velocity.flat) ∙ (λ i. dot_of leg.place.flat leg.place.flat *ℤ no_speed i) ∙ *ℤ-zero (dot_of leg.place.flat leg.place.flat)))
      where
        part : (x y : ℤ) → pos 0 ≤ℤ y → x +ℤ y ≡ pos 0 → x ≤ℤ pos 0
        part x y h e = omega (arith, ints)

        root_zero : (x : ℤ) → (x *ℤ x) ≤ℤ pos 0 → x ≡ pos 0
        root_zero (pos zero) h = refl
        root_zero (pos (suc x)) h = absurd (omega (arith, ints))
        root_zero (negsuc x) h = absurd (omega (arith, ints))

    same : square_of (pos volume.dthr *ℤ d) -ℤ pp leg volume n d ≡ d *ℤ d *ℤ (square_of (pos volume.dthr) -ℤ dot_of leg.place.flat leg.place.flat)
    same =
        ring (ρ 0) ((R ⊗ D) ⊗ (R ⊗ D) ⊖ (SE ⊗ SE ⊕ SN ⊗ SN)) (D ⊗ D ⊗ (R ⊗ R ⊖ (E ⊗ E ⊕ N ⊗ N)) ⊖ (lit (pos 2) ⊗ K ⊗ D ⊗ SV ⊕ K ⊗ K ⊗ VV)) tt
        ∙ (λ i. d *ℤ d *ℤ (square_of (pos volume.dthr) -ℤ dot_of leg.place.flat leg.place.flat) -ℤ (pos 2 *ℤ n *ℤ d *ℤ no_rate i +ℤ n *ℤ n *ℤ no_speed i))
        ∙ ring (ρ 0) (D ⊗ D ⊗ (R ⊗ R ⊖ (E ⊗ E ⊕ N ⊗ N)) ⊖ (lit (pos 2) ⊗ K ⊗ D ⊗ lit (pos 0) ⊕ K ⊗ K ⊗ lit (pos 0))) (D ⊗ D ⊗ (R ⊗ R ⊖ (E ⊗ E ⊕ N ⊗ N))) tt

    pub still_near : pos 1 ≤ℤ d → (dot_of leg.place.flat leg.place.flat ≤ℤ square_of (pos volume.dthr)) ↔ IsNear leg volume n d
    still_near d1 = (
      (λ h. by_rest _ _ _ same (mul_nonneg (d *ℤ d) _ (square_nonneg d) (rest _ _ h))),
      (λ h. by_rest _ _ _ refl (cancel_le (d *ℤ d) _ (mul_pos d d (omega (arith, ints)) (omega (arith, ints))) (subst (λ (z : ℤ). pos 0 ≤ℤ z) same (rest _ _ h)))),
    )

-- by the time to the entry point, where the distance falls, on a line that passes near
pub tep_is : (leg : Leg) (volume : Volume) (m : Motion) (is : IsMotion leg volume m) (n d : ℤ)
    → pos 1 ≤ℤ d → pos 0 ≤ℤ m.margin → rate_of m n d <ℤ pos 0
    → volume.model ≡ Tep → IsEntryWithin m volume.tthr n d ↔ ViolatesHorizontally leg volume n d
tep_is leg volume m is n d d1 passes down =
    tep_by leg volume m is n d d1 passes down (near_is leg volume m is (n +ℤ pos volume.tthr *ℤ d) d (moves leg volume m is n d d1 passes down))
