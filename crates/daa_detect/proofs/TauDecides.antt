-- Which times of the vertical window decide by tau, where the distance still falls at its last: that, and the one nearest to the
-- middle of the times that are soon by tau.
use Rattle.std.proofs.Common.{◌≡◌, inl, ⊎_elim, sym, subst, ◌∙◌, arith, ℤ, pos, neg_ℤ, ◌+ℤ◌, ◌*ℤ◌, ◌≤ℤ◌, ◌<ℤ◌, refl, Option, None, Some, ◌^◌}
use Rattle.std.proofs.lemmas.Int.{ints}
use Rattle.std.specs.Prelude.{MatchOption}
use Rattle.daa_fixed.specs.declared.Leg.{Leg}
use Rattle.daa_fixed.specs.declared.Point.{Point}
use Rattle.daa_fixed.specs.Flat.{square_of}
use Rattle.daa_fixed.specs.Leg.{IsLegInRange}
use Rattle.daa_fixed.specs.Point.{IsBetween}
use Rattle.daa_fixed.specs.Time.{IsTime, HoldsNever}
use Rattle.daa_fixed.proofs.Integers.{by_rest}
use Rattle.daa_fixed.proofs.PointSizes.{IsPointInRange}
use Rattle.daa_quad.specs.Quad.{IsLeast}
use Rattle.daa_quad.specs.Inside.Slope.{slope_of}
use Rattle.daa_quad.proofs.Sizes.{IsQuadInRange}
use Rattle.daa_quad.proofs.Parabolas.{start-least, end-least, vertex-least, vertex-between, vertex-bends, vertex-not_negative}
use Rattle.daa_taumod.specs.declared.Model.{Model}
use Rattle.daa_taumod.specs.declared.Model.TheVariants.{Tau}
use Rattle.daa_taumod.specs.declared.Volume.{Volume}
use Rattle.daa_taumod.specs.Volume.{IsVolumeInRange, IsSoon, PassesNear, ViolatesHorizontally, ViolatesVertically, Violates}
use Rattle.daa_taumod.proofs.ClosestApproach.{passes_near-always}
use Rattle.daa_vwindow.specs.Window.{IsWindow}
use Rattle.daa_detect.specs.declared.motion.Motion.{Motion}
use Rattle.daa_detect.specs.Hit.{IsHit}
use Rattle.daa_detect.specs.Inside.Motion.{IsMotion, IsTauWithinInMiddle, IsMiddleAhead, rate_of, middle_rate_of}
use Rattle.daa_detect.proofs.DecidingTimes.{quad, last_between, last_least}
use Rattle.daa_detect.proofs.Margin.{rate_is}
use Rattle.daa_detect.proofs.NearestTimes.{vv, cc, near_there, time_between, vertex_small}
use Rattle.daa_detect.proofs.TauTimes.{HasTauQuad, tau_quad, soon_violates, slope_is, soon_at_least, soon_at_vertex}

module _ (leg : Leg)
    (volume : Volume) (m : Motion) (is : IsMotion leg volume m) (r : IsLegInRange leg) (v : IsVolumeInRange volume)
    (p q : Point) (w : IsWindow leg.secs (ViolatesVertically leg volume) p q) (e : volume.model ≡ Tau) where
  -- soon by tau at no time of the window
  abbrev pub IsClear : Type 0
  IsClear = (n d : ℤ) → IsBetween p q n d → ¬ IsSoon Tau leg volume n d

  -- whether the leg violates, where the last time of the window does not: only tau is left
  pub none_by_tau : rate_of m q.num q.den ≤ℤ pos 0 → ¬ ViolatesHorizontally leg volume q.num q.den → IsClear → HoldsNever leg.secs (Violates leg volume)
  none_by_tau down c clear n d t x =
      let b = (w.exact n d t).0 x.vertical in
      let f = quad leg volume m is r v p q w in
      ⊎_elim
      (λ near. c (inl (near_there leg volume f.quad f.is p q q p.positive q.positive q.positive (last_between leg volume m is r v p q w) (last_least leg volume m is r v p q w down) n d b near)))
      (λ k. clear n d b (subst (λ (u : Model). IsSoon u leg volume n d) e k.soon))
      x.horizontal

  pub only_tau : rate_of m q.num q.den ≤ℤ pos 0 → ¬ ViolatesHorizontally leg volume q.num q.den → (o : Option Point)
      → MatchOption o IsClear (λ x. IsHit leg volume x.num x.den) → MatchOption o (HoldsNever leg.secs (Violates leg volume)) (λ x. IsHit leg volume x.num x.den)
  only_tau down c None clear = none_by_tau down c clear
  only_tau down c (Some x) hit = hit

  module _ (passes : pos 0 ≤ℤ m.margin) where
    f : HasTauQuad leg volume
    f = tau_quad leg volume r v

    tp : IsPointInRange p
    tp = record { n0 = p.not_negative; n1 = p.num_bound; d0 = p.positive; d1 = p.den_bound }

    tq : IsPointInRange q
    tq = record { n0 = q.not_negative; n1 = q.num_bound; d0 = q.positive; d1 = q.den_bound }

    s : IsQuadInRange f.quad
    s = record { a0 = f.quad.convex; a = f.quad.a_bound; b = f.quad.b_bound; c = f.quad.c_bound }

    near_line : (n d : ℤ) → pos 1 ≤ℤ d → PassesNear leg volume n d
    near_line n d d1 = (passes_near-always leg volume n d d1).0 (by_rest _ _ _ refl (subst (λ (z : ℤ). pos 0 ≤ℤ z) is.margin passes))

    slope : (n d : ℤ) → slope_of f.quad n d ≡ middle_rate_of m volume.tthr n d
    slope n d = slope_is leg volume f.quad f.is n d ∙ sym (λ i. pos 2 *ℤ rate_is leg volume m is n d i +ℤ pos volume.tthr *ℤ d *ℤ is.speed_squared i)

    -- clear where the least one does not violate
    clear_by : (x : Point) → IsLeast f.quad p q x.num x.den → ¬ ViolatesHorizontally leg volume x.num x.den → IsClear
    clear_by x least c n d b soon =
        c (soon_violates leg volume e x.num x.den x.positive (near_line x.num x.den x.positive) (soon_at_least leg volume f.quad f.is p q x.num x.den least n d b soon))

    pub first_middle : pos 0 ≤ℤ middle_rate_of m volume.tthr p.num p.den → (o : Option Point)
        → MatchOption o (¬ ViolatesHorizontally leg volume p.num p.den) (λ x. (x ≡ p) × ViolatesHorizontally leg volume p.num p.den)
        → MatchOption o IsClear (λ x. IsHit leg volume x.num x.den)
    first_middle up None c = clear_by p (start-least f.quad p q s tp tq (subst (λ (z : ℤ). pos 0 ≤ℤ z) (sym (slope p.num p.den)) up)) c
    first_middle up (Some x) held =
        subst (λ (y : Point). IsHit leg volume y.num y.den) (sym held.0) (record { time = w.first; violates = record { horizontal = held.1; vertical = w.holds_first } })

    pub last_middle : middle_rate_of m volume.tthr q.num q.den ≤ℤ pos 0 → ¬ ViolatesHorizontally leg volume q.num q.den → IsClear
    last_middle down c = clear_by q (end-least f.quad p q s tp tq (subst (λ (z : ℤ). z ≤ℤ pos 0) (sym (slope q.num q.den)) down)) c

    -- ---- the middle itself, where it lies between the first and the last
    module _ (down : middle_rate_of m volume.tthr p.num p.den <ℤ pos 0) (up : pos 0 <ℤ middle_rate_of m volume.tthr q.num q.den) where
      falls : slope_of f.quad p.num p.den <ℤ pos 0
      falls = subst (λ (z : ℤ). z <ℤ pos 0) (sym (slope p.num p.den)) down

      rises : pos 0 <ℤ slope_of f.quad q.num q.den
      rises = subst (λ (z : ℤ). pos 0 <ℤ z) (sym (slope q.num q.den)) up

      bends : pos 1 ≤ℤ f.quad.a
      bends = vertex-bends f.quad p q s tp tq falls rises

      between : IsBetween p q (neg_ℤ f.quad.b) (pos 2 *ℤ f.quad.a)
      between = vertex-between f.quad p q s tp tq falls rises

      begun : f.quad.b ≤ℤ pos 0
      begun = vertex-not_negative f.quad p q s tp tq falls rises

      ended : neg_ℤ f.quad.b ≤ℤ pos (2 ^ 41)
      ended = vertex_small leg.secs p q f.quad.a f.quad.b r.short q.positive w.last bends f.quad.a_bound between

      a_is : f.quad.a ≡ m.speed_squared
      a_is = f.is.a ∙ sym is.speed_squared

      b_is : f.quad.b ≡ pos 2 *ℤ m.rate +ℤ pos volume.tthr *ℤ m.speed_squared
      b_is = f.is.b ∙ sym (λ i. pos 2 *ℤ is.rate i +ℤ pos volume.tthr *ℤ is.speed_squared i)

      pub middle_ahead : IsMiddleAhead m volume.tthr
      middle_ahead = record {
        moves = subst (λ (z : ℤ). pos 1 ≤ℤ z) a_is bends;
        later = subst (λ (z : ℤ). z ≤ℤ pos 0) b_is begun;
        small = subst (λ (z : ℤ). neg_ℤ z ≤ℤ pos (2 ^ 41)) b_is ended;
      }

      within_is : IsTauWithinInMiddle leg m volume.tthr ≡ (square_of (pos 2 *ℤ cc leg volume) ≤ℤ square_of (pos volume.tthr *ℤ vv leg volume))
      within_is = λ i. square_of (pos 2 *ℤ cc leg volume) ≤ℤ square_of (pos volume.tthr *ℤ is.speed_squared i)

      above : pos 0 <ℤ f.quad.a
      above = omega (arith, ints, bends)

      pub middle_clear : ¬ IsTauWithinInMiddle leg m volume.tthr → IsClear
      middle_clear c n d b soon =
          c (subst (λ (P : Type 0). P) (sym within_is)
          ((soon_at_vertex leg volume f.quad f.is above).0
          (soon_at_least leg volume f.quad f.is p q (neg_ℤ f.quad.b) (pos 2 *ℤ f.quad.a) (vertex-least f.quad p q s tp tq) n d b soon)))

      at_vertex : IsTauWithinInMiddle leg m volume.tthr → IsHit leg volume (neg_ℤ f.quad.b) (pos 2 *ℤ f.quad.a)
      at_vertex h = record {
        time = time;
        violates = record {
          horizontal = soon_violates leg volume e (neg_ℤ f.quad.b) (pos 2 *ℤ f.quad.a) between.fraction (near_line _ _ between.fraction)
              ((soon_at_vertex leg volume f.quad f.is above).1 (subst (λ (P : Type 0). P) within_is h));
          vertical = (w.exact (neg_ℤ f.quad.b) (pos 2 *ℤ f.quad.a) time).1 between;
        };
      }
        where
          time : IsTime leg.secs (neg_ℤ f.quad.b) (pos 2 *ℤ f.quad.a)
          time = time_between leg.secs p q (neg_ℤ f.quad.b) (pos 2 *ℤ f.quad.a) q.positive w.last (turned f.quad.b begun) between
            where
              turned : (x : ℤ) → x ≤ℤ pos 0 → pos 0 ≤ℤ neg_ℤ x
              turned x h = omega (arith, ints)

      pub middle_hits : IsTauWithinInMiddle leg m volume.tthr → IsHit leg volume (neg_ℤ (pos 2 *ℤ m.rate +ℤ pos volume.tthr *ℤ m.speed_squared)) (pos 2 *ℤ m.speed_squared)
      middle_hits h = subst (λ (z : ℤ). IsHit leg volume (neg_ℤ z) (pos 2 *ℤ m.speed_squared)) b_is (subst (λ (z : ℤ). IsHit leg volume (neg_ℤ f.quad.b) (pos 2 *ℤ z)) a_is (at_vertex h))
