-- The vertical part of the volume, of what does not begin below, as two conditions that are linear in the time.
use Rattle.std.proofs.Common.{[], ◌∷◌, ◌≡◌, ◌↔◌, ◌⊎◌, inl, inr, ⊎_elim, refl, sym, ap, subst, ◌∙◌, arith, ℕ, ℤ, pos, ◌+ℤ◌, ◌*ℤ◌, ◌-ℤ◌, neg_ℤ, ◌≤ℤ◌, ◌<ℤ◌, unsigned_abs, Option, None, Some}
use Rattle.std.proofs.lemmas.Int.{ints, by_lt_z}
use Rattle.std.specs.Int.{int_max}
use Rattle.daa_fixed.proofs.Ring.{mul_nonneg, ring, #, lit, ⊝, ◌⊕◌, ◌⊖◌, ◌⊗◌}
use Rattle.daa_fixed.proofs.Integers.{mul_le, cancel_le, le_trans_ℤ, rest, by_rest, sum_nonneg}
use Rattle.daa_fixed.specs.declared.Leg.{Leg}
use Rattle.daa_fixed.specs.Time.{IsTime}
use Rattle.daa_taumod.specs.declared.Volume.{Volume}
use Rattle.daa_taumod.specs.Volume.{height_at}
use Rattle.daa_vwindow.proofs.Bands.{IsMax}
use Rattle.daa_margin.specs.declared.ErrorBounds.{ErrorBounds}
use Rattle.daa_margin.specs.ErrorBounds.{height_error_at}
use Rattle.daa_margin.specs.MayViolate.{MayBeNearInHeight, MayBeCoAltitude, MayViolateVertically}
use Rattle.daa_margin.specs.Inside.Heights.{ComesDown, ComesUp, IsReached, IsKept, IsInReach, gap_of}
use Rattle.daa_margin.proofs.Within.{level_is}
use Rattle.daa_vwindow.proofs.Bands.{max_is}

natural : {x : ℤ} → pos 1 ≤ℤ x → pos 0 ≤ℤ x
natural h = omega (arith, ints)

module _ (h w a b z t m n d : ℤ) (n0 : pos 0 ≤ℤ n) (d1 : pos 1 ≤ℤ d) (h0 : pos 0 ≤ℤ h) (a0 : pos 0 ≤ℤ a) (b0 : pos 0 ≤ℤ b) (z0 : pos 0 ≤ℤ z) (t0 : pos 0 ≤ℤ t)
    (x : IsMax m z (t *ℤ (b -ℤ w))) where
  abbrev H : ℤ
  H = d *ℤ h +ℤ n *ℤ w

  abbrev E : ℤ
  E = d *ℤ a +ℤ n *ℤ b

  abbrev later : ℤ
  later = n +ℤ t *ℤ d

  abbrev H2 : ℤ
  H2 = d *ℤ h +ℤ later *ℤ w

  abbrev E2 : ℤ
  E2 = d *ℤ a +ℤ later *ℤ b

  d0 : pos 0 ≤ℤ d
  d0 = natural d1

  E0 : pos 0 ≤ℤ E
  E0 = sum_nonneg _ _ (mul_nonneg d a d0 a0) (mul_nonneg n b n0 b0)

  abbrev IsLow : Type 0
  IsLow = IsReached (h -ℤ a -ℤ m) (b -ℤ w) n d

  abbrev IsHigh : Type 0
  IsHigh = IsKept (h +ℤ a +ℤ z) (neg_ℤ w -ℤ b) n d

  -- in terms of the height
  low_in : H ≤ℤ (m *ℤ d +ℤ E) → IsLow
  low_in k = by_rest _ _ _
      (let Hh = # 0 in let W = # 1 in let A = # 2 in let B = # 3 in let M = # 4 in let N = # 5 in let D = # 6 in
      ring (h ∷ w ∷ a ∷ b ∷ m ∷ n ∷ d ∷ []) (N ⊗ (B ⊖ W) ⊖ (Hh ⊖ A ⊖ M) ⊗ D) ((M ⊗ D ⊕ (D ⊗ A ⊕ N ⊗ B)) ⊖ (D ⊗ Hh ⊕ N ⊗ W)) tt)
      (rest _ _ k)

  low_out : IsLow → H ≤ℤ (m *ℤ d +ℤ E)
  low_out k = by_rest _ _ _
      (let Hh = # 0 in let W = # 1 in let A = # 2 in let B = # 3 in let M = # 4 in let N = # 5 in let D = # 6 in
      ring (h ∷ w ∷ a ∷ b ∷ m ∷ n ∷ d ∷ []) ((M ⊗ D ⊕ (D ⊗ A ⊕ N ⊗ B)) ⊖ (D ⊗ Hh ⊕ N ⊗ W)) (N ⊗ (B ⊖ W) ⊖ (Hh ⊖ A ⊖ M) ⊗ D) tt)
      (rest _ _ k)

  high_in : pos 0 ≤ℤ (H +ℤ (z *ℤ d +ℤ E)) → IsHigh
  high_in k = by_rest _ _ _
      (let Hh = # 0 in let W = # 1 in let A = # 2 in let B = # 3 in let Z = # 4 in let N = # 5 in let D = # 6 in
      ring (h ∷ w ∷ a ∷ b ∷ z ∷ n ∷ d ∷ []) ((Hh ⊕ A ⊕ Z) ⊗ D ⊖ N ⊗ (⊝ W ⊖ B)) ((D ⊗ Hh ⊕ N ⊗ W) ⊕ (Z ⊗ D ⊕ (D ⊗ A ⊕ N ⊗ B))) tt)
      k

  high_out : IsHigh → pos 0 ≤ℤ (H +ℤ (z *ℤ d +ℤ E))
  high_out k = subst (λ (y : ℤ). pos 0 ≤ℤ y)
      (let Hh = # 0 in let W = # 1 in let A = # 2 in let B = # 3 in let Z = # 4 in let N = # 5 in let D = # 6 in
      ring (h ∷ w ∷ a ∷ b ∷ z ∷ n ∷ d ∷ []) ((Hh ⊕ A ⊕ Z) ⊗ D ⊖ N ⊗ (⊝ W ⊖ B)) ((D ⊗ Hh ⊕ N ⊗ W) ⊕ (Z ⊗ D ⊕ (D ⊗ A ⊕ N ⊗ B))) tt)
      (rest _ _ k)

  m0 : pos 0 ≤ℤ m
  m0 = le_trans_ℤ _ _ _ z0 x.left

  md0 : pos 0 ≤ℤ (m *ℤ d)
  md0 = mul_nonneg m d m0 d0

  zd0 : pos 0 ≤ℤ (z *ℤ d)
  zd0 = mul_nonneg z d z0 d0

  zm : (z *ℤ d) ≤ℤ (m *ℤ d)
  zm = mul_le z m d d0 x.left

  abbrev IsVertical : Type 0
  IsVertical = (pos (unsigned_abs H) ≤ℤ (z *ℤ d +ℤ E)) ⊎ ((pos (unsigned_abs H) ≤ℤ E)
      ⊎ (((pos 0 ≤ℤ H) × (H2 ≤ℤ E2)) ⊎ ((H ≤ℤ pos 0) × (pos 0 ≤ℤ (H2 +ℤ E2)))))

  near_low : (y e p q : ℤ) → pos (unsigned_abs y) ≤ℤ (p +ℤ e) → p ≤ℤ q → y ≤ℤ (q +ℤ e)
  near_low y e p q k l = omega (arith, ints)

  near_high : (y e p : ℤ) → pos (unsigned_abs y) ≤ℤ (p +ℤ e) → pos 0 ≤ℤ (y +ℤ (p +ℤ e))
  near_high y e p k = omega (arith, ints)

  widen : (y e p : ℤ) → pos (unsigned_abs y) ≤ℤ e → pos 0 ≤ℤ p → pos (unsigned_abs y) ≤ℤ (p +ℤ e)
  widen y e p k l = omega (arith, ints)

  three : (x y z : ℤ) → pos 0 ≤ℤ x → pos 0 ≤ℤ y → pos 0 ≤ℤ z → pos 0 ≤ℤ (x +ℤ (y +ℤ z))
  three x y z i j k = omega (arith, ints)

  -- what is lost in t seconds
  loses : H2 ≤ℤ E2 → H ≤ℤ (m *ℤ d +ℤ E)
  loses k = by_rest _ _ _
      (let Hh = # 0 in let W = # 1 in let A = # 2 in let B = # 3 in let M = # 4 in let T = # 5 in let N = # 6 in let D = # 7 in
      ring (h ∷ w ∷ a ∷ b ∷ m ∷ t ∷ n ∷ d ∷ [])
      ((M ⊗ D ⊕ (D ⊗ A ⊕ N ⊗ B)) ⊖ (D ⊗ Hh ⊕ N ⊗ W))
      ((M ⊖ T ⊗ (B ⊖ W)) ⊗ D ⊕ ((D ⊗ A ⊕ (N ⊕ T ⊗ D) ⊗ B) ⊖ (D ⊗ Hh ⊕ (N ⊕ T ⊗ D) ⊗ W)))
      tt)
      (sum_nonneg _ _ (mul_nonneg _ d (rest _ _ x.right) d0) (rest _ _ k))

  loses_back : m ≡ t *ℤ (b -ℤ w) → H ≤ℤ (m *ℤ d +ℤ E) → H2 ≤ℤ E2
  loses_back e k = by_rest _ _ _
      (let Hh = # 0 in let W = # 1 in let A = # 2 in let B = # 3 in let T = # 4 in let N = # 5 in let D = # 6 in
      ring (h ∷ w ∷ a ∷ b ∷ t ∷ n ∷ d ∷ [])
      ((D ⊗ A ⊕ (N ⊕ T ⊗ D) ⊗ B) ⊖ (D ⊗ Hh ⊕ (N ⊕ T ⊗ D) ⊗ W))
      (((T ⊗ (B ⊖ W)) ⊗ D ⊕ (D ⊗ A ⊕ N ⊗ B)) ⊖ (D ⊗ Hh ⊕ N ⊗ W))
      tt)
      (rest _ _ (subst (λ (y : ℤ). H ≤ℤ (y *ℤ d +ℤ E)) e k))

  -- what began not below, and comes up until later, is not too low before
  rises : pos 0 ≤ℤ (H2 +ℤ E2) → pos 0 ≤ℤ (H +ℤ E)
  rises k = by_lt_z (pos 0) later
      (λ some. cancel_le later (H +ℤ E) some
      (subst (λ (y : ℤ). pos 0 ≤ℤ y)
      (let Hh = # 0 in let W = # 1 in let A = # 2 in let B = # 3 in let T = # 4 in let N = # 5 in let D = # 6 in
      ring (h ∷ w ∷ a ∷ b ∷ t ∷ n ∷ d ∷ [])
      (N ⊗ ((D ⊗ Hh ⊕ (N ⊕ T ⊗ D) ⊗ W) ⊕ (D ⊗ A ⊕ (N ⊕ T ⊗ D) ⊗ B)) ⊕ (T ⊗ D) ⊗ (D ⊗ (Hh ⊕ A)))
      ((N ⊕ T ⊗ D) ⊗ ((D ⊗ Hh ⊕ N ⊗ W) ⊕ (D ⊗ A ⊕ N ⊗ B)))
      tt)
      (sum_nonneg _ _ (mul_nonneg n _ n0 k) (mul_nonneg _ _ td0 (mul_nonneg d _ d0 (sum_nonneg _ _ h0 a0))))))
      (λ none. subst (λ (y : ℤ). pos 0 ≤ℤ y)
      (let Hh = # 0 in let W = # 1 in let A = # 2 in let B = # 3 in let T = # 4 in let N = # 5 in let D = # 6 in
      ring (h ∷ w ∷ a ∷ b ∷ t ∷ n ∷ d ∷ [])
      (((D ⊗ Hh ⊕ (N ⊕ T ⊗ D) ⊗ W) ⊕ (D ⊗ A ⊕ (N ⊕ T ⊗ D) ⊗ B)) ⊖ (T ⊗ D) ⊗ (W ⊕ B))
      ((D ⊗ Hh ⊕ N ⊗ W) ⊕ (D ⊗ A ⊕ N ⊗ B))
      tt)
      (subst (λ (y : ℤ). pos 0 ≤ℤ ((H2 +ℤ E2) -ℤ y *ℤ (w +ℤ b))) (zero _ _ n0 td0 none)
      (subst (λ (y : ℤ). pos 0 ≤ℤ y) (let K = # 0 in let V = # 1 in ring ((H2 +ℤ E2) ∷ (w +ℤ b) ∷ []) K (K ⊖ lit (pos 0) ⊗ V) tt) k)))
    where
      td0 : pos 0 ≤ℤ (t *ℤ d)
      td0 = mul_nonneg t d t0 d0

      zero : (x y : ℤ) → pos 0 ≤ℤ x → pos 0 ≤ℤ y → (x +ℤ y) ≤ℤ pos 0 → pos 0 ≡ y
      zero x y i j k = omega (arith, ints)

  in_near : pos (unsigned_abs H) ≤ℤ (z *ℤ d +ℤ E) → IsLow × IsHigh
  in_near near = (low_in (near_low H E (z *ℤ d) (m *ℤ d) near zm), high_in (near_high H E (z *ℤ d) near))

  in_up : H ≤ℤ pos 0 → pos 0 ≤ℤ (H2 +ℤ E2) → IsLow × IsHigh
  in_up low k = (low_in (le_trans_ℤ H (pos 0) (m *ℤ d +ℤ E) low (sum_nonneg (m *ℤ d) E md0 E0)), high_in (swapped H (z *ℤ d) E zd0 (rises k)))
    where
      swapped : (x y e : ℤ) → pos 0 ≤ℤ y → pos 0 ≤ℤ (x +ℤ e) → pos 0 ≤ℤ (x +ℤ (y +ℤ e))
      swapped x y e i k = omega (arith, ints)

  vertical_in : IsVertical → IsLow × IsHigh
  vertical_in (inl near) = in_near near
  vertical_in (inr (inl level)) = in_near (widen H E (z *ℤ d) level zd0)
  vertical_in (inr (inr (inl down))) = (low_in (loses down.1), high_in (three H (z *ℤ d) E down.0 zd0 E0))
  vertical_in (inr (inr (inr up))) = in_up up.0 up.1

  vertical_out : IsLow × IsHigh → IsVertical
  vertical_out k = by_lt_z H (pos 0)
      (λ below. inl (size_low _ _ below (high_out k.1)))
      (λ above. ⊎_elim
      (λ e. inl (size_high _ _ above (subst (λ (y : ℤ). H ≤ℤ (y *ℤ d +ℤ E)) e (low_out k.0))))
      (λ e. inr (inr (inl (above, loses_back e (low_out k.0)))))
      x.one)
    where
      size_low : (y p : ℤ) → y <ℤ pos 0 → pos 0 ≤ℤ (y +ℤ p) → pos (unsigned_abs y) ≤ℤ p
      size_low y p i k = omega (arith, ints)

      size_high : (y p : ℤ) → pos 0 ≤ℤ y → y ≤ℤ p → pos (unsigned_abs y) ≤ℤ p
      size_high y p i k = omega (arith, ints)

  pub vertical_is : IsVertical ↔ (IsLow × IsHigh)
  vertical_is = (vertical_in, vertical_out)

-- ---- of a leg
module _ (leg : Leg) (volume : Volume) (bounds : ErrorBounds) (n d : ℤ) (n0 : pos 0 ≤ℤ n) (d1 : pos 1 ≤ℤ d) where
  abbrev zthr : ℤ
  zthr = pos volume.zthr

  abbrev a : ℤ
  a = pos bounds.height

  abbrev b : ℤ
  b = pos bounds.climb

  abbrev soon_after : ℤ
  soon_after = n +ℤ pos volume.tcoa *ℤ d

  nat0 : (k : ℕ) → pos 0 ≤ℤ pos k
  nat0 k = omega (arith, ints)

  abbrev Vertical : Type 0
  Vertical = MayBeNearInHeight leg volume bounds n d ⊎ (MayBeCoAltitude leg volume bounds n d
      ⊎ (((pos 0 ≤ℤ height_at leg n d) × (height_at leg soon_after d ≤ℤ height_error_at bounds soon_after d))
      ⊎ ((height_at leg n d ≤ℤ pos 0) × (pos 0 ≤ℤ (height_at leg soon_after d +ℤ height_error_at bounds soon_after d)))))

  into : MayViolateVertically leg volume bounds n d → Vertical
  into (inl near) = inl near
  into (inr soon) = inr (⊎_elim inl
      (λ k. inr (⊎_elim (λ down. inl (down.begins, down.ends)) (λ up. inr (up.begins, up.ends)) k))
      ((level_is leg volume bounds n d n0 d1).1 soon))

  out : Vertical → MayViolateVertically leg volume bounds n d
  out (inl near) = inl near
  out (inr (inl level)) = inr ((level_is leg volume bounds n d n0 d1).0 (inl level))
  out (inr (inr (inl down))) = inr ((level_is leg volume bounds n d n0 d1).0 (inr (inl (record { begins = down.0; ends = down.1 }))))
  out (inr (inr (inr up))) = inr ((level_is leg volume bounds n d n0 d1).0 (inr (inr (record { begins = up.0; ends = up.1 }))))

  -- what does not begin below
  pub above_is : pos 0 ≤ℤ leg.place.up → IsInReach leg.place.up leg.velocity.up volume bounds n d ↔ MayViolateVertically leg volume bounds n d
  above_is h0 =
      let same = vertical_is leg.place.up leg.velocity.up a b zthr (pos volume.tcoa) (int_max zthr (pos volume.tcoa *ℤ (b -ℤ leg.velocity.up))) n d n0 d1 h0
      (nat0 bounds.height) (nat0 bounds.climb) (nat0 volume.zthr) (nat0 volume.tcoa) (max_is _ _ refl) in (
        (λ r. out (same.1 (r.reached, r.kept))),
        (λ v. let k = same.0 (into v) in record { reached = k.0; kept = k.1 }),
      )

-- its mirror image
abbrev pub mirrored : Leg → Leg
mirrored leg = record {
  place = record { flat = leg.place.flat; up = neg_ℤ leg.place.up };
  velocity = record { flat = leg.velocity.flat; up = neg_ℤ leg.velocity.up };
  secs = leg.secs;
}

module _ (leg : Leg) (volume : Volume) (bounds : ErrorBounds) where
  mirror_size : (n d : ℤ) → unsigned_abs (height_at (mirrored leg) n d) ≡ unsigned_abs (height_at leg n d)
  mirror_size n d =
      ap unsigned_abs (let H = # 0 in let W = # 1 in let N = # 2 in let D = # 3 in
      ring (leg.place.up ∷ leg.velocity.up ∷ n ∷ d ∷ []) (D ⊗ ⊝ H ⊕ N ⊗ ⊝ W) (⊝ (D ⊗ H ⊕ N ⊗ W)) tt)
      ∙ abs-neg (height_at leg n d)
    where
      abs-neg : (z : ℤ) → unsigned_abs (neg_ℤ z) ≡ unsigned_abs z
      abs-neg z = omega (arith, ints)

  mirror_in : (n d : ℤ) → MayViolateVertically leg volume bounds n d → MayViolateVertically (mirrored leg) volume bounds n d
  mirror_in n d (inl near) = inl (subst (λ (k : ℕ). pos k ≤ℤ (pos volume.zthr *ℤ d +ℤ height_error_at bounds n d)) (sym (mirror_size n d)) near)
  mirror_in n d (inr s) = inr (record {
    num = s.num;
    den = s.den;
    fraction = s.fraction;
    from = s.from;
    upto = s.upto;
    holds = subst (λ (k : ℕ). pos k ≤ℤ height_error_at bounds s.num s.den) (sym (mirror_size s.num s.den)) s.holds;
  })

  mirror_out : (n d : ℤ) → MayViolateVertically (mirrored leg) volume bounds n d → MayViolateVertically leg volume bounds n d
  mirror_out n d (inl near) = inl (subst (λ (k : ℕ). pos k ≤ℤ (pos volume.zthr *ℤ d +ℤ height_error_at bounds n d)) (mirror_size n d) near)
  mirror_out n d (inr s) = inr (record {
    num = s.num;
    den = s.den;
    fraction = s.fraction;
    from = s.from;
    upto = s.upto;
    holds = subst (λ (k : ℕ). pos k ≤ℤ height_error_at bounds s.num s.den) (mirror_size s.num s.den) s.holds;
  })

  -- what begins below
  pub below_is : leg.place.up <ℤ pos 0 → (n d : ℤ) → pos 0 ≤ℤ n → pos 1 ≤ℤ d
      → IsInReach (neg_ℤ leg.place.up) (neg_ℤ leg.velocity.up) volume bounds n d ↔ MayViolateVertically leg volume bounds n d
  below_is down n d n0 d1 =
      let same = above_is (mirrored leg) volume bounds n d n0 d1 (turned _ down) in
      ((λ r. mirror_out n d (same.0 r)), (λ v. same.1 (mirror_in n d v)))
    where
      turned : (x : ℤ) → x <ℤ pos 0 → pos 0 ≤ℤ neg_ℤ x
      turned x h = omega (arith, ints)
