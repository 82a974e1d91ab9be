-- Which time of the vertical window decides: its first where the distance grows there, its last where it still falls there (but
-- by tau), and else the closest approach, which lies between them.
use Rattle.std.proofs.Common.{[], ◌∷◌, ◌≡◌, ◌⊎◌, inl, inr, sym, subst, ◌∙◌, arith, ◌*◌, ◌^◌, ℤ, pos, neg_ℤ, ◌+ℤ◌, ◌*ℤ◌, ◌-ℤ◌, ◌≤ℤ◌, ◌<ℤ◌, Option, None, Some}
use Rattle.std.proofs.lemmas.Int.{ints}
use Rattle.std.specs.Prelude.{MatchOption}
use Rattle.daa_fixed.specs.declared.Leg.{Leg}
use Rattle.daa_fixed.specs.declared.Point.{Point}
use Rattle.daa_fixed.specs.Leg.{IsLegInRange}
use Rattle.daa_fixed.specs.Point.{IsBetween}
use Rattle.daa_fixed.specs.Size.{IsWithin}
use Rattle.daa_fixed.specs.Time.{IsTime, HoldsNever}
use Rattle.daa_fixed.proofs.Bounds.{times}
use Rattle.daa_fixed.proofs.Integers.{cancel_le, rest, by_rest, le_trans_ℤ}
use Rattle.daa_fixed.proofs.LegSizes as size
use Rattle.daa_fixed.proofs.PointSizes.{IsPointInRange}
use Rattle.daa_fixed.proofs.Ring.{mul_nonneg, ring, #, lit, ⊝, ◌⊕◌, ◌⊗◌}
use Rattle.daa_quad.specs.declared.Quad.{Quad}
use Rattle.daa_quad.specs.Quad.{IsLeast}
use Rattle.daa_quad.specs.Inside.Slope.{slope_of}
use Rattle.daa_quad.proofs.Sizes.{IsQuadInRange}
use Rattle.daa_quad.proofs.Parabolas.{start-least, end-least}
use Rattle.daa_taumod.specs.declared.Model.{Model}
use Rattle.daa_taumod.specs.declared.Model.TheVariants.{Tau, Tcpa, Taumod, Tep}
use Rattle.daa_taumod.specs.declared.Volume.{Volume}
use Rattle.daa_taumod.specs.Volume.{IsVolumeInRange, ViolatesHorizontally, ViolatesVertically, Violates, place_at}
use Rattle.daa_fixed.proofs.Lengths.{nearing_moves}
use Rattle.daa_vwindow.specs.Window.{IsWindow}
use Rattle.daa_detect.specs.declared.motion.Motion.{Motion}
use Rattle.daa_detect.specs.Hit.{IsHit}
use Rattle.daa_detect.specs.Inside.Motion.{IsMotion, IsAhead, rate_of}
use Rattle.daa_detect.proofs.Distance.{IsDistance, HasDistance, distance}
use Rattle.daa_detect.proofs.Margin.{near_is, rate_is, violating_passes}
use Rattle.daa_detect.proofs.NearestTimes.{vv, sv, violates_late, violates_there, time_between, none_elsewhere}

-- ---- of numbers
-- what falls at n/d has its vertex later, and rises before it
vertex_after : (n d s a : ℤ) → (d *ℤ s +ℤ n *ℤ a) ≤ℤ pos 0 → (n *ℤ a) ≤ℤ (neg_ℤ s *ℤ d)
vertex_after n d s a h =
    by_rest (n *ℤ a) (neg_ℤ s *ℤ d) (pos 0 -ℤ (d *ℤ s +ℤ n *ℤ a)) (ring (n ∷ d ∷ s ∷ a ∷ []) (⊝ (# 2) ⊗ # 1 ⊕ ⊝ (# 0 ⊗ # 3)) (lit (pos 0) ⊕ ⊝ (# 1 ⊗ # 2 ⊕ # 0 ⊗ # 3)) tt) (rest _ _ h)

vertex_before : (n d s a : ℤ) → pos 0 ≤ℤ (d *ℤ s +ℤ n *ℤ a) → (neg_ℤ s *ℤ d) ≤ℤ (n *ℤ a)
vertex_before n d s a h =
    by_rest (neg_ℤ s *ℤ d) (n *ℤ a) (d *ℤ s +ℤ n *ℤ a) (ring (n ∷ d ∷ s ∷ a ∷ []) (# 0 ⊗ # 3 ⊕ ⊝ (⊝ (# 2) ⊗ # 1)) (# 1 ⊗ # 2 ⊕ # 0 ⊗ # 3) tt) h

-- ---- of models
pub other_than_tau : (w : Model) → (w ≡ Tcpa ⊎ (w ≡ Taumod ⊎ w ≡ Tep)) → ¬ (w ≡ Tau)
other_than_tau w (inl e) t = absurd (cc (e, t))
other_than_tau w (inr (inl e)) t = absurd (cc (e, t))
other_than_tau w (inr (inr e)) t = absurd (cc (e, t))

module _ (leg : Leg) (volume : Volume) (m : Motion) (is : IsMotion leg volume m) where
  -- where the line misses, nothing violates
  pub missed : m.margin <ℤ pos 0 → HoldsNever leg.secs (Violates leg volume)
  missed h n d t x = absurd (clash (violating_passes leg volume m is n d t.fraction x.horizontal))
    where
      clash : pos 0 ≤ℤ m.margin → ⊥
      clash k = omega (arith, ints)

  -- the slope at a time is twice the rate
  twice : (q : Quad) → IsDistance leg volume q → (n d : ℤ) → slope_of q n d ≡ pos 2 *ℤ rate_of m n d
  twice q by n d =
      (λ i. pos 2 *ℤ by.a i *ℤ n +ℤ by.b i *ℤ d)
      ∙ ring (vv leg volume ∷ sv leg volume ∷ n ∷ d ∷ []) (lit (pos 2) ⊗ # 0 ⊗ # 2 ⊕ (lit (pos 2) ⊗ # 1) ⊗ # 3) (lit (pos 2) ⊗ (# 3 ⊗ # 1 ⊕ # 2 ⊗ # 0)) tt
      ∙ sym (λ i. pos 2 *ℤ (d *ℤ is.rate i +ℤ n *ℤ is.speed_squared i))

  module _ (r : IsLegInRange leg) (v : IsVolumeInRange volume) (p q : Point) (w : IsWindow leg.secs (ViolatesVertically leg volume) p q) where
    tp : IsPointInRange p
    tp = record { n0 = p.not_negative; n1 = p.num_bound; d0 = p.positive; d1 = p.den_bound }

    tq : IsPointInRange q
    tq = record { n0 = q.not_negative; n1 = q.num_bound; d0 = q.positive; d1 = q.den_bound }

    pub quad : HasDistance leg volume
    quad = distance leg volume r v

    s : IsQuadInRange quad.quad
    s = record { a0 = quad.quad.convex; a = quad.quad.a_bound; b = quad.quad.b_bound; c = quad.quad.c_bound }

    -- whether the leg violates is whether it violates horizontally at e
    abbrev Decides : Point → Type 0
    Decides e = (o : Option Point)
        → MatchOption o (¬ ViolatesHorizontally leg volume e.num e.den) (λ x. (x ≡ e) × ViolatesHorizontally leg volume e.num e.den)
        → MatchOption o (HoldsNever leg.secs (Violates leg volume)) (λ x. IsHit leg volume x.num x.den)

    -- so it is where what violates at any time of the window does so at e
    carries_decides : (e : Point) → IsTime leg.secs e.num e.den → ViolatesVertically leg volume e.num e.den
        → ((n d : ℤ) → IsBetween p q n d → ViolatesHorizontally leg volume n d → ViolatesHorizontally leg volume e.num e.den) → Decides e
    carries_decides e time vertical carry None clear =
        none_elsewhere leg volume p q e e w between between (λ n d b x. inl (carry n d b x)) (λ x. clear x.horizontal) (λ x. clear x.horizontal)
      where
        between : IsBetween p q e.num e.den
        between = (w.exact e.num e.den time).0 vertical
    carries_decides e time vertical carry (Some x) held =
        subst (λ (y : Point). IsHit leg volume y.num y.den) (sym held.0) (record { time = time; violates = record { horizontal = held.1; vertical = vertical } })

    first_between : IsBetween p q p.num p.den
    first_between = (w.exact p.num p.den w.first).0 w.holds_first

    pub last_between : IsBetween p q q.num q.den
    last_between = (w.exact q.num q.den w.last).0 w.holds_last

    pub first_decides : pos 0 ≤ℤ rate_of m p.num p.den → Decides p
    first_decides up = carries_decides p w.first w.holds_first (λ n d b x.
        violates_late leg volume quad.quad quad.is p q p p.positive q.positive p.positive first_between least n d b (subst (λ (z : ℤ). pos 0 ≤ℤ z) (rate_is leg volume m is p.num p.den) up) x)
      where
        least : IsLeast quad.quad p q p.num p.den
        least = start-least quad.quad p q s tp tq (subst (λ (z : ℤ). pos 0 ≤ℤ z) (sym (twice quad.quad quad.is p.num p.den)) (mul_nonneg (pos 2) _ (omega (arith, ints)) up))

    pub last_least : rate_of m q.num q.den ≤ℤ pos 0 → IsLeast quad.quad p q q.num q.den
    last_least down = end-least quad.quad p q s tp tq (subst (λ (z : ℤ). z ≤ℤ pos 0) (sym (twice quad.quad quad.is q.num q.den)) (doubled _ down))
      where
        doubled : (x : ℤ) → x ≤ℤ pos 0 → (pos 2 *ℤ x) ≤ℤ pos 0
        doubled x h = omega (arith, ints)

    pub last_decides : ¬ (volume.model ≡ Tau) → rate_of m q.num q.den ≤ℤ pos 0 → Decides q
    last_decides other down = carries_decides q w.last w.holds_last (λ n d b x.
        violates_there leg volume quad.quad quad.is p q q p.positive q.positive q.positive last_between (last_least down) n d b other x)

    -- ---- the closest approach, where the distance falls at the first and grows at the last
    module _ (down : rate_of m p.num p.den <ℤ pos 0) (up : pos 0 <ℤ rate_of m q.num q.den) where
      moves : pos 0 <ℤ vv leg volume
      moves = nearing_moves (place_at leg p.num p.den) leg.velocity.flat (subst (λ (z : ℤ). z <ℤ pos 0) (rate_is leg volume m is p.num p.den) down)

      has_speed : pos 1 ≤ℤ m.speed_squared
      has_speed = subst (λ (z : ℤ). pos 1 ≤ℤ z) (sym is.speed_squared) (omega (arith, ints, moves))

      between : IsBetween p q (neg_ℤ m.rate) m.speed_squared
      between = record {
        fraction = has_speed;
        from = vertex_after p.num p.den m.rate m.speed_squared (omega (arith, ints, down));
        upto = vertex_before q.num q.den m.rate m.speed_squared (omega (arith, ints, up));
      }

      not_past : pos 0 ≤ℤ neg_ℤ m.rate
      not_past = cancel_le p.den (neg_ℤ m.rate) (omega (arith, ints, p.positive))
          (swapped (neg_ℤ m.rate) p.den (le_trans_ℤ (pos 0) (p.num *ℤ m.speed_squared) (neg_ℤ m.rate *ℤ p.den)
          (mul_nonneg p.num m.speed_squared p.not_negative (omega (arith, ints, has_speed))) between.from))
        where
          swapped : (x y : ℤ) → pos 0 ≤ℤ (x *ℤ y) → pos 0 ≤ℤ (y *ℤ x)
          swapped x y h = subst (λ (z : ℤ). pos 0 ≤ℤ z) (ring (x ∷ y ∷ []) (# 0 ⊗ # 1) (# 1 ⊗ # 0) tt) h

      time : IsTime leg.secs (neg_ℤ m.rate) m.speed_squared
      time = time_between leg.secs p q (neg_ℤ m.rate) m.speed_squared q.positive w.last not_past between

      pub is_ahead : IsAhead m
      is_ahead = record {
        moves = has_speed;
        later = turned m.rate not_past;
        small = le_trans_ℤ (neg_ℤ m.rate) (pos leg.secs *ℤ m.speed_squared) (pos (2 ^ 41)) time.upto
            (subst (λ (z : ℤ). (pos leg.secs *ℤ z) ≤ℤ pos (2 ^ 41)) (sym is.speed_squared) (bounded _ (times (size.natural 180 leg.secs r.short) (size.vv r))));
      }
        where
          turned : (x : ℤ) → pos 0 ≤ℤ neg_ℤ x → x ≤ℤ pos 0
          turned x h = omega (arith, ints)

          bounded : (x : ℤ) → IsWithin (180 * 3200000000) x → x ≤ℤ pos (2 ^ 41)
          bounded x h = omega (arith, ints, h.size)

      pub approach_hits : pos 0 ≤ℤ m.margin → IsHit leg volume (neg_ℤ m.rate) m.speed_squared
      approach_hits passes = record {
        time = time;
        violates = record {
          horizontal = inl ((near_is leg volume m is (neg_ℤ m.rate) m.speed_squared moves).0 nearest);
          vertical = (w.exact (neg_ℤ m.rate) m.speed_squared time).1 between;
        };
      }
        where
          nearest : (rate_of m (neg_ℤ m.rate) m.speed_squared *ℤ
              (rate_of m (neg_ℤ m.rate) m.speed_squared +ℤ pos 0 *ℤ m.speed_squared *ℤ m.speed_squared))
              ≤ℤ (m.speed_squared *ℤ m.speed_squared *ℤ m.margin)
          nearest = by_rest _ _ _
              (ring (m.speed_squared ∷ m.rate ∷ m.margin ∷ [])
              (# 0 ⊗ # 0 ⊗ # 2 ⊕ ⊝ ((# 0 ⊗ # 1 ⊕ ⊝ (# 1) ⊗ # 0) ⊗ ((# 0 ⊗ # 1 ⊕ ⊝ (# 1) ⊗ # 0) ⊕ lit (pos 0) ⊗ # 0 ⊗ # 0))) (# 0 ⊗ # 0 ⊗ # 2) tt)
              (mul_nonneg (m.speed_squared *ℤ m.speed_squared) m.margin (mul_nonneg m.speed_squared m.speed_squared (omega (arith, ints, has_speed)) (omega (arith, ints, has_speed))) passes)
