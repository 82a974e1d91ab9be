-- What meets an inner level meets the outer one.
use Rattle.std.proofs.Common.{[], ◌∷◌, ℕ, ◌≡◌, ◌≤◌, ◌⊎◌, inl, inr, true, sym, subst, arith, ℤ, pos, ◌+ℤ◌, ◌-ℤ◌, ◌*ℤ◌, ◌≤ℤ◌, ◌<ℤ◌, neg_ℤ}
use Rattle.std.proofs.lemmas.Int.{ints, by_lt_z}
use Rattle.daa_fixed.proofs.Ring.{mul_nonneg, ring, #, lit, ⊝, ◌⊕◌, ◌⊖◌, ◌⊗◌}
use Rattle.daa_fixed.proofs.Integers.{mul_le, mul_le_mul, by_rest, rest, le_trans_ℤ, sum_nonneg}
use Rattle.daa_fixed.proofs.Lengths.{dot_nonneg}
use Rattle.daa_fixed.specs.declared.Flat.{Flat}
use Rattle.daa_fixed.specs.declared.Leg.{Leg}
use Rattle.daa_fixed.specs.Flat.{dot_of, square_of}
use Rattle.daa_taumod.specs.declared.Model.{Model}
use Rattle.daa_taumod.specs.declared.Model.TheVariants.{Tau, Tcpa, Taumod, Tep}
use Rattle.daa_taumod.specs.declared.Volume.{Volume}
use Rattle.daa_taumod.specs.Volume.{place_at, place_of, with_model, IsSoon, ViolatesHorizontally, ViolatesVertically, Violates}
use Rattle.daa_taumod.proofs.ClosestApproach.{violates_by_model}
use Rattle.daa_config.specs.declared.candidate.Candidate.{Candidate}
use Rattle.daa_config.specs.declared.level.Level.{Level}
use Rattle.daa_config.specs.Settings.{Settings}
use Rattle.daa_state.specs.declared.word.Own.{Own}
use Rattle.daa_state.specs.declared.word.Traffic.{Traffic}
use Rattle.daa_legs.specs.Errors.{are_exact}
use Rattle.daa_legs.specs.Meeting.{ViolatesOn, MeetsWithin}
use Rattle.daa_legs.proofs.Exactness.{exact_leg}
use Rattle.daa_legs.proofs.Stretches.{flown_on, place_later}
use Rattle.daa_scan.specs.Inside.Nesting.{LiesWithin}

-- ---- of numbers
natural_le : (x y : ℕ) → x ≤ y → pos x ≤ℤ pos y
natural_le x y h = omega (arith, ints, h)

scaled_le : (x y : ℕ) (d : ℤ) → pos 1 ≤ℤ d → x ≤ y → (pos x *ℤ d) ≤ℤ (pos y *ℤ d)
scaled_le x y d d1 h = mul_le (pos x) (pos y) d (omega (arith, ints, d1)) (natural_le x y h)

scaled_nonneg : (x : ℕ) (d : ℤ) → pos 1 ≤ℤ d → pos 0 ≤ℤ (pos x *ℤ d)
scaled_nonneg x d d1 = mul_nonneg (pos x) d (omega (arith, ints)) (omega (arith, ints, d1))

square_le : (x y : ℕ) (d : ℤ) → pos 1 ≤ℤ d → x ≤ y → square_of (pos x *ℤ d) ≤ℤ square_of (pos y *ℤ d)
square_le x y d d1 h = let l = scaled_le x y d d1 h in mul_le_mul _ _ _ _ (scaled_nonneg x d d1) (scaled_nonneg y d d1) l l (scaled_nonneg x d d1)

-- the more time there is, the less is asked of what nears
later_soon : (p u t s d : ℤ) → (t *ℤ d) ≤ℤ (s *ℤ d) → u <ℤ pos 0 → (p +ℤ s *ℤ d *ℤ u) ≤ℤ (p +ℤ t *ℤ d *ℤ u)
later_soon p u t s d h u0 =
    by_rest _ _ _ (ring (p ∷ u ∷ t ∷ s ∷ d ∷ []) ((# 0 ⊕ # 2 ⊗ # 4 ⊗ # 1) ⊖ (# 0 ⊕ # 3 ⊗ # 4 ⊗ # 1)) ((# 3 ⊗ # 4 ⊖ # 2 ⊗ # 4) ⊗ ⊝ (# 1)) tt)
    (mul_nonneg _ (neg_ℤ u) (rest _ _ h) (omega (arith, ints, u0)))

-- ---- of what flies straight on: t later, and u later, which is no earlier
module _ (s v : Flat) (t u : ℤ) (h : t ≤ℤ u) where
  -- where the distance falls no more, it does not fall again
  never_falls_again : pos 0 ≤ℤ dot_of (flown_on s v t) v → pos 0 ≤ℤ dot_of (flown_on s v u) v
  never_falls_again rises =
      let X = # 0 in let Y = # 1 in let A = # 2 in let B = # 3 in let T = # 4 in let U = # 5 in
      le_trans_ℤ (pos 0) _ _ rises (by_rest _ _ _
      (ring (s.east ∷ s.north ∷ v.east ∷ v.north ∷ t ∷ u ∷ [])
      (((X ⊕ U ⊗ A) ⊗ A ⊕ (Y ⊕ U ⊗ B) ⊗ B) ⊖ ((X ⊕ T ⊗ A) ⊗ A ⊕ (Y ⊕ T ⊗ B) ⊗ B))
      ((U ⊖ T) ⊗ (A ⊗ A ⊕ B ⊗ B))
      tt)
      (mul_nonneg (u -ℤ t) _ (rest _ _ h) (dot_nonneg v)))

  -- where it still falls, it is less
  nearer_later : dot_of (flown_on s v u) v ≤ℤ pos 0 → dot_of (flown_on s v u) (flown_on s v u) ≤ℤ dot_of (flown_on s v t) (flown_on s v t)
  nearer_later falls =
      let X = # 0 in let Y = # 1 in let A = # 2 in let B = # 3 in let T = # 4 in let U = # 5 in
      let E = X ⊕ U ⊗ A in let N = Y ⊕ U ⊗ B in
      by_rest _ _ _
      (ring (s.east ∷ s.north ∷ v.east ∷ v.north ∷ t ∷ u ∷ [])
      (((X ⊕ T ⊗ A) ⊗ (X ⊕ T ⊗ A) ⊕ (Y ⊕ T ⊗ B) ⊗ (Y ⊕ T ⊗ B)) ⊖ (E ⊗ E ⊕ N ⊗ N))
      ((U ⊖ T) ⊗ ((U ⊖ T) ⊗ (A ⊗ A ⊕ B ⊗ B)) ⊕ lit (pos 2) ⊗ ((U ⊖ T) ⊗ ⊝ (E ⊗ A ⊕ N ⊗ B)))
      tt)
      (sum_nonneg _ _
      (mul_nonneg (u -ℤ t) _ (rest _ _ h) (mul_nonneg (u -ℤ t) _ (rest _ _ h) (dot_nonneg v)))
      (mul_nonneg (pos 2) _ (omega (arith, ints)) (mul_nonneg (u -ℤ t) _ (rest _ _ h) (turned (dot_of (flown_on s v u) v) falls))))
    where
      turned : (x : ℤ) → x ≤ℤ pos 0 → pos 0 ≤ℤ neg_ℤ x
      turned x h = omega (arith, ints)

module _ (leg : Leg) (inner outer : Volume) (n d : ℤ) (d1 : pos 1 ≤ℤ d) (dthr : inner.dthr ≤ outer.dthr) (zthr : inner.zthr ≤ outer.zthr) (tthr : inner.tthr ≤ outer.tthr)
    (tcoa : inner.tcoa ≤ outer.tcoa) where
  -- tthr seconds later
  abbrev later : ℕ → Flat
  later secs = flown_on (place_at leg n d) leg.velocity.flat (pos secs *ℤ d)

  -- the distance falls no more, or is at most dthr
  entry_grows : (pos 0 ≤ℤ dot_of (later inner.tthr) leg.velocity.flat) ⊎ (dot_of (later inner.tthr) (later inner.tthr) ≤ℤ square_of (pos inner.dthr *ℤ d))
      → (pos 0 ≤ℤ dot_of (later outer.tthr) leg.velocity.flat) ⊎ (dot_of (later outer.tthr) (later outer.tthr) ≤ℤ square_of (pos outer.dthr *ℤ d))
  entry_grows (inl s) = inl (never_falls_again (place_at leg n d) leg.velocity.flat (pos inner.tthr *ℤ d) (pos outer.tthr *ℤ d) (scaled_le inner.tthr outer.tthr d d1 tthr) s)
  entry_grows (inr s) = by_lt_z (dot_of (later outer.tthr) leg.velocity.flat) (pos 0)
      (λ l. inr (le_trans_ℤ _ _ _
      (nearer_later (place_at leg n d) leg.velocity.flat (pos inner.tthr *ℤ d) (pos outer.tthr *ℤ d) (scaled_le inner.tthr outer.tthr d d1 tthr)
      (below (dot_of (later outer.tthr) leg.velocity.flat) l))
      (le_trans_ℤ _ _ _ s (square_le inner.dthr outer.dthr d d1 dthr))))
      (λ l. inl l)
    where
      below : (x : ℤ) → x <ℤ pos 0 → x ≤ℤ pos 0
      below x h = omega (arith, ints)

  -- the place that the model looks at
  abbrev Entry : Volume → Flat → Type 0
  Entry volume w = (pos 0 ≤ℤ dot_of w leg.velocity.flat) ⊎ (dot_of w w ≤ℤ square_of (pos volume.dthr *ℤ d))

  soon_grows : (w : Model) → dot_of (place_at leg n d) leg.velocity.flat <ℤ pos 0 → IsSoon w leg inner n d → IsSoon w leg outer n d
  soon_grows Tau nearing s =
      le_trans_ℤ _ _ _ (later_soon (dot_of (place_at leg n d) (place_at leg n d)) (dot_of (place_at leg n d) leg.velocity.flat) (pos inner.tthr) (pos outer.tthr) d
      (scaled_le inner.tthr outer.tthr d d1 tthr) nearing) s
  soon_grows Taumod nearing s =
      le_trans_ℤ _ _ _ (later_soon (dot_of (place_at leg n d) (place_at leg n d)) (dot_of (place_at leg n d) leg.velocity.flat) (pos inner.tthr) (pos outer.tthr) d
      (scaled_le inner.tthr outer.tthr d d1 tthr) nearing)
      (le_trans_ℤ _ _ _ s (square_le inner.dthr outer.dthr d d1 dthr))
  soon_grows Tcpa nearing s = le_trans_ℤ _ _ _ s (mul_le _ _ _ (dot_nonneg leg.velocity.flat) (scaled_le inner.tthr outer.tthr d d1 tthr))
  soon_grows Tep nearing s =
      subst (Entry outer) (sym (place_later leg n (pos outer.tthr *ℤ d) d)) (entry_grows (subst (Entry inner) (place_later leg n (pos inner.tthr *ℤ d) d) s))

  -- of one model
  flat_grows : (w : Model) → ViolatesHorizontally leg (with_model w inner) n d → ViolatesHorizontally leg (with_model w outer) n d
  flat_grows w (inl x) = inl (le_trans_ℤ _ _ _ x (square_le inner.dthr outer.dthr d d1 dthr))
  flat_grows w (inr x) = inr (record {
    nearing = x.nearing;
    soon = soon_with w x.nearing x.soon;
    near = le_trans_ℤ _ _ _ x.near (mul_le _ _ _ (dot_nonneg leg.velocity.flat) (square_le inner.dthr outer.dthr d d1 dthr));
  })
    where
      soon_with : (w : Model) → dot_of (place_at leg n d) leg.velocity.flat <ℤ pos 0 → IsSoon w leg (with_model w inner) n d → IsSoon w leg (with_model w outer) n d
      soon_with Tau nearing s = soon_grows Tau nearing s
      soon_with Tcpa nearing s = soon_grows Tcpa nearing s
      soon_with Taumod nearing s = soon_grows Taumod nearing s
      soon_with Tep nearing s = soon_grows Tep nearing s

  up_grows : (w : Model) → ViolatesVertically leg (with_model w inner) n d → ViolatesVertically leg (with_model w outer) n d
  up_grows w (inl x) = inl (le_trans_ℤ _ _ _ x (scaled_le inner.zthr outer.zthr d d1 zthr))
  up_grows w (inr x) = inr (record {
    nearing = x.nearing;
    soon = le_trans_ℤ _ _ _ x.soon (mul_le _ _ _ (omega (arith, ints)) (scaled_le inner.tcoa outer.tcoa d d1 tcoa));
  })

  violates_grows : (w : Model) → Violates leg (with_model w inner) n d → Violates leg (with_model w outer) n d
  violates_grows w v = record { horizontal = flat_grows w v.horizontal; vertical = up_grows w v.vertical }

  -- of two
  pub violates_outer : place_of inner.model ≤ place_of outer.model → Violates leg inner n d → Violates leg outer n d
  violates_outer h v = violates_grows outer.model (violates_by_model inner.model outer.model leg inner n d h d1 v)

-- on a leg
pub hit_outer : (settings : Settings) (own : Own) (candidate : Candidate) (aircraft : Traffic) (inner outer : Level) (k : ℕ) → are_exact aircraft.bounds ≡ true → LiesWithin inner outer
    → ViolatesOn settings own candidate aircraft inner.volume k → ViolatesOn settings own candidate aircraft outer.volume k
hit_outer settings own candidate aircraft inner outer k exact h v =
    let x = (exact_leg settings own candidate aircraft inner.volume exact k).0 v in
    (exact_leg settings own candidate aircraft outer.volume exact k).1 (record {
      num = x.num;
      den = x.den;
      time = x.time;
      holds = violates_outer _ inner.volume outer.volume x.num x.den x.time.fraction h.dthr h.zthr h.tthr h.tcoa h.model x.holds;
    })

pub meets_outer : (settings : Settings) (own : Own) (candidate : Candidate) (aircraft : Traffic) (inner outer : Level) → are_exact aircraft.bounds ≡ true → LiesWithin inner outer
    → MeetsWithin settings own candidate aircraft inner.volume inner.lookahead → MeetsWithin settings own candidate aircraft outer.volume outer.lookahead
meets_outer settings own candidate aircraft inner outer exact h m = record {
  leg = m.leg;
  before = omega (arith, m.before, h.lookahead);
  violates = hit_outer settings own candidate aircraft inner outer m.leg exact h m.violates;
}
