-- Whether a leg violates a volume at some time is decided by trying: the vertical part holds on one interval, whose ends are
-- fractions, and within it the time of least distance decides, by tau with one more; so some fraction of a bounded denominator does.
use Rattle.std.proofs.Common.{◌≡◌, ◌↔◌, ◌⊎◌, inl, inr, ⊎_elim, refl, subst, arith, ℕ, zero, suc, ◌^◌, ◌<◌, ◌≤◌, Bool}
use Rattle.std.proofs.Common.{true, false, ℤ, pos, negsuc, neg_ℤ, ◌+ℤ◌, ◌-ℤ◌, ◌*ℤ◌, ◌≤ℤ◌, ◌<ℤ◌, unsigned_abs, Option, None, Some}
use Rattle.std.specs.Prelude.{IsTrue, MatchOption}
use Rattle.std.specs.Int.{int_max, int_min}
use Rattle.std.proofs.lemmas.Int.{ints, by_lt_z}
use Rattle.daa_fixed.specs.declared.Leg.{Leg}
use Rattle.daa_fixed.specs.declared.Point.{Point}
use Rattle.daa_fixed.specs.Leg.{IsLegInRange}
use Rattle.daa_fixed.specs.Point.{IsBetween}
use Rattle.daa_fixed.specs.Time.{IsTime, HoldsSometime, HoldsNever}
use Rattle.daa_fixed.proofs.PointSizes.{IsPointInRange}
use Rattle.daa_quad.specs.declared.Quad.{Quad}
use Rattle.daa_quad.specs.Quad.{IsLeast}
use Rattle.daa_quad.specs.Inside.Slope.{slope_of}
use Rattle.daa_quad.proofs.Sizes.{IsQuadInRange}
use Rattle.daa_quad.proofs.Parabolas.{start-least, end-least, vertex-least, vertex-between, vertex-bends, vertex-not_negative}
use Rattle.daa_taumod.specs.declared.Model.{Model}
use Rattle.daa_taumod.specs.declared.Model.TheVariants.{Tau, Tcpa, Taumod, Tep}
use Rattle.daa_taumod.specs.declared.Volume.{Volume}
use Rattle.daa_taumod.specs.Volume.{IsVolumeInRange, IsSoon, IsClosing, IsCoAltitudeSoon, ViolatesHorizontally, ViolatesVertically, Violates}
use Rattle.daa_taumod.proofs.ClosestApproach.{passes_near-always}
use Rattle.daa_vwindow.specs.Inside.Band.{IsInBand}
use Rattle.daa_vwindow.specs.Window.{IsWindow}
use Rattle.daa_vwindow.proofs.Bands.{IsMax, IsMin, max_is, min_is, ends_are, window, never, level_window, level_never, abs_within, abs_beyond}
use Rattle.daa_vwindow.proofs.Heights.{retarget, rising, falling, standing}
use Rattle.daa_detect.specs.Hit.{IsHit}
use Rattle.daa_detect.proofs.Distance.{HasDistance, distance}
use Rattle.daa_detect.proofs.NearestTimes.{time_between, vertex_small, near_there, violates_there, none_elsewhere}
use Rattle.daa_detect.proofs.TauTimes.{HasTauQuad, tau_quad, soon_violates, soon_at_least}
use Rattle.daa_meet.proofs.Trials.{is_soon, is_near, passes_near, is_closing, is_near_in_height, is_co_altitude_soon, is_violated, is_violated_at, is_violated_sometime}
use Rattle.daa_meet.proofs.TrialLemmas.{le_is, lt_is, both_is, either_is, some_is}

-- ---- the volume at n/d
soon_is : (m : Model) (leg : Leg) (volume : Volume) (n d : ℤ) → IsTrue (is_soon m leg volume n d) ↔ IsSoon m leg volume n d
soon_is Tau leg volume n d = le_is _ _
soon_is Tcpa leg volume n d = le_is _ _
soon_is Taumod leg volume n d = le_is _ _
soon_is Tep leg volume n d = either_is _ (is_near leg volume (n +ℤ pos volume.tthr *ℤ d) d) (le_is _ _) (le_is _ _)

closing_is : (leg : Leg) (volume : Volume) (n d : ℤ) → IsTrue (is_closing leg volume n d) ↔ IsClosing leg volume n d
closing_is leg volume n d =
    let e = both_is _ _ (lt_is _ _) (both_is (is_soon volume.model leg volume n d) (passes_near leg volume n d) (soon_is volume.model leg volume n d) (le_is _ _)) in (
      (λ t. let p = e.0 t in record { nearing = p.0; soon = p.1.0; near = p.1.1 }),
      (λ c. e.1 (c.nearing, (c.soon, c.near))),
    )

co_altitude_soon_is : (leg : Leg) (volume : Volume) (n d : ℤ) → IsTrue (is_co_altitude_soon leg volume n d) ↔ IsCoAltitudeSoon leg volume n d
co_altitude_soon_is leg volume n d =
    let e = both_is _ _ (lt_is _ _) (le_is _ _) in (
      (λ t. let p = e.0 t in record { nearing = p.0; soon = p.1 }),
      (λ c. e.1 (c.nearing, c.soon)),
    )

pub violated_is : (leg : Leg) (volume : Volume) (n d : ℤ) → IsTrue (is_violated leg volume n d) ↔ Violates leg volume n d
unfolding is_violated
violated_is leg volume n d =
    let e = both_is _ _
    (either_is (is_near leg volume n d) (is_closing leg volume n d) (le_is _ _) (closing_is leg volume n d))
    (either_is (is_near_in_height leg volume n d) (is_co_altitude_soon leg volume n d) (le_is _ _) (co_altitude_soon_is leg volume n d)) in (
      (λ t. let p = e.0 t in record { horizontal = p.0; vertical = p.1 }),
      (λ v. e.1 (v.horizontal, v.vertical)),
    )

-- ---- the vertical window
record HasWindow (secs : ℕ) (P : ℤ → ℤ → Type 0) : Type 0 where
  ends : Option (Point × Point)
  is : MatchOption ends (HoldsNever secs P) (λ (p, q). IsWindow secs P p q)

passage : (secs : ℕ) (h a low high : ℤ) → secs ≤ 180 → pos 1 ≤ℤ a → a ≤ℤ pos 40000 → HasWindow secs (IsInBand h a low high)
passage secs h a low high short a1 slow =
    let f : ℤ = int_max (neg_ℤ low -ℤ h) (pos 0) in
    let l : ℤ = int_min (high -ℤ h) (pos secs *ℤ a) in
    let fm : IsMax f (neg_ℤ low -ℤ h) (pos 0) = max_is _ _ refl in
    let lm : IsMin l (high -ℤ h) (pos secs *ℤ a) = min_is _ _ refl in
    by_lt_z l f
    (λ lt. record { ends = None; is = never secs h a low high f l a1 fm lm lt })
    (λ le.
    let e = ends_are secs h a low high f l short a1 slow fm lm le in
    let p : Point = record { num = f; den = a; not_negative = e.begun; num_bound = omega (arith, ints, e.in_order, e.ended); positive = a1; den_bound = omega (arith, ints) } in
    let q : Point = record { num = l; den = a; not_negative = omega (arith, ints, e.begun, e.in_order); num_bound = omega (arith, ints, e.ended); positive = a1; den_bound = omega (arith, ints) } in
    record { ends = Some (p, q); is = window secs h a low high f l a1 fm lm p q refl refl refl refl le })

level : (secs : ℕ) (h high : ℤ) → secs ≤ 180 → HasWindow secs (IsInBand h (pos 0) high high)
level secs h high short = by_lt_z high (pos (unsigned_abs h))
    (λ lt. record { ends = None; is = level_never secs h high (abs_beyond h high _ refl lt) })
    (λ le.
    let b = abs_within h high _ refl le in
    let p : Point = record { num = pos 0; den = pos 1; not_negative = omega (arith, ints); num_bound = omega (arith, ints); positive = omega (arith, ints); den_bound = omega (arith, ints) } in
    let q : Point = record { num = pos secs; den = pos 1; not_negative = omega (arith, ints); num_bound = omega (arith, ints); positive = omega (arith, ints); den_bound = omega (arith, ints) } in
    record { ends = Some (p, q); is = level_window secs h high b.0 b.1 p q refl refl refl refl })

module _ (leg : Leg) (volume : Volume) (r : IsLegInRange leg) where
  moved : (P : ℤ → ℤ → Type 0) → ((n d : ℤ) → IsTime leg.secs n d → (P n d ↔ ViolatesVertically leg volume n d)) → HasWindow leg.secs P → HasWindow leg.secs (ViolatesVertically leg volume)
  moved P same w = record { ends = w.ends; is = retarget leg.secs P (ViolatesVertically leg volume) w.ends same w.is }

  slow_up : (a : ℤ) → unsigned_abs a < 40000 → a ≤ℤ pos 40000
  slow_up a h = omega (arith, ints)

  slow_down : (a : ℤ) → unsigned_abs a < 40000 → neg_ℤ a ≤ℤ pos 40000
  slow_down a h = omega (arith, ints)

  vertical : HasWindow leg.secs (ViolatesVertically leg volume)
  vertical = by_lt_z leg.velocity.up (pos 0)
      (λ down. moved _ (falling leg volume _ down (max_is _ _ refl))
      (passage leg.secs (neg_ℤ leg.place.up) (neg_ℤ leg.velocity.up)
      (int_max (pos volume.zthr) (pos volume.tcoa *ℤ neg_ℤ leg.velocity.up)) (pos volume.zthr) r.short
      (turn leg.velocity.up down) (slow_down leg.velocity.up r.up_speed)))
      (λ not_down. by_lt_z (pos 0) leg.velocity.up
      (λ up. moved _ (rising leg volume _ (one leg.velocity.up up) (max_is _ _ refl))
      (passage leg.secs leg.place.up leg.velocity.up
      (int_max (pos volume.zthr) (pos volume.tcoa *ℤ leg.velocity.up)) (pos volume.zthr) r.short
      (one leg.velocity.up up) (slow_up leg.velocity.up r.up_speed)))
      (λ not_up. moved _ (standing leg volume (still leg.velocity.up not_down not_up)) (level leg.secs leg.place.up (pos volume.zthr) r.short)))
    where
      turn : (a : ℤ) → a <ℤ pos 0 → pos 1 ≤ℤ neg_ℤ a
      turn a h = omega (arith, ints)

      one : (a : ℤ) → pos 0 <ℤ a → pos 1 ≤ℤ a
      one a h = omega (arith, ints)

      still : (a : ℤ) → pos 0 ≤ℤ a → a ≤ℤ pos 0 → a ≡ pos 0
      still a h k = omega (arith, ints)

-- ---- the time of least distance
record HasLeast (q : Quad) (p r : Point) : Type 0 where
  at : Point
  between : IsBetween p r at.num at.den
  least : IsLeast q p r at.num at.den

least_between : (secs : ℕ) (q : Quad) (p r : Point) → secs ≤ 180 → IsTime secs r.num r.den → (p.num *ℤ r.den) ≤ℤ (r.num *ℤ p.den) → HasLeast q p r
least_between secs q p r short last in_order =
    let s : IsQuadInRange q = record { a0 = q.convex; a = q.a_bound; b = q.b_bound; c = q.c_bound } in
    let tp : IsPointInRange p = record { n0 = p.not_negative; n1 = p.num_bound; d0 = p.positive; d1 = p.den_bound } in
    let tr : IsPointInRange r = record { n0 = r.not_negative; n1 = r.num_bound; d0 = r.positive; d1 = r.den_bound } in
    by_lt_z (slope_of q p.num p.den) (pos 0)
    (λ falls. by_lt_z (pos 0) (slope_of q r.num r.den)
    (λ rises.
    let b = vertex-between q p r s tp tr falls rises in
    let v : Point = record {
      num = neg_ℤ q.b;
      den = pos 2 *ℤ q.a;
      not_negative = turned q.b (vertex-not_negative q p r s tp tr falls rises);
      num_bound = vertex_small secs p r q.a q.b short r.positive last (vertex-bends q p r s tp tr falls rises) q.a_bound b;
      positive = b.fraction;
      den_bound = twice q.a q.a_bound;
    } in
    record { at = v; between = b; least = vertex-least q p r s tp tr })
    (λ down. record { at = r; between = record { fraction = r.positive; from = in_order; upto = same _ }; least = end-least q p r s tp tr down }))
    (λ up. record { at = p; between = record { fraction = p.positive; from = same _; upto = in_order }; least = start-least q p r s tp tr up })
  where
    turned : (b : ℤ) → b ≤ℤ pos 0 → pos 0 ≤ℤ neg_ℤ b
    turned b h = omega (arith, ints)

    twice : (a : ℤ) → unsigned_abs a < 2 ^ 32 → (pos 2 *ℤ a) ≤ℤ pos (2 ^ 33)
    twice a h = omega (arith, ints)

    same : (x : ℤ) → x ≤ℤ x
    same x = omega (arith, ints)

-- ---- the leg
record IsDecided (leg : Leg) (volume : Volume) : Type 0 where
  hit : Option Point
  is : MatchOption hit (HoldsNever leg.secs (Violates leg volume)) (λ p. IsHit leg volume p.num p.den)

-- the times at which the vertical part holds
abbrev UpWindow : Leg → Volume → Point → Point → Type 0
UpWindow leg volume p q = IsWindow leg.secs (ViolatesVertically leg volume) p q

abbrev IsClearAt : Leg → Volume → Point → Type 0
IsClearAt leg volume x = ¬ Violates leg volume x.num x.den

is_tau : (w : Model) → (w ≡ Tau) ⊎ (¬ (w ≡ Tau))
is_tau Tau = inl refl
is_tau Tcpa = inr (λ e. absurd (cc e))
is_tau Taumod = inr (λ e. absurd (cc e))
is_tau Tep = inr (λ e. absurd (cc e))

decided : (leg : Leg) (volume : Volume) → IsLegInRange leg → IsVolumeInRange volume → IsDecided leg volume
decided leg volume r v = let w = vertical leg volume r in by_window w.ends w.is
  where
    hit_at : (p q : Point) → UpWindow leg volume p q → (x : Point) → IsBetween p q x.num x.den → Violates leg volume x.num x.den → IsDecided leg volume
    hit_at p q w x b h = record { hit = Some x; is = record { time = time_between leg.secs p q x.num x.den q.positive w.last x.not_negative b; violates = h } }

    in_order : (p q : Point) → UpWindow leg volume p q → (p.num *ℤ q.den) ≤ℤ (q.num *ℤ p.den)
    in_order p q w = ((w.exact q.num q.den w.last).0 w.holds_last).from

    -- by tau, clear where the distance is least: one more time decides
    by_tau : (p q : Point) → UpWindow leg volume p q → (d : HasDistance leg volume) → (m : HasLeast d.quad p q) → IsClearAt leg volume m.at → volume.model ≡ Tau
        → (t : HasTauQuad leg volume) → (o : HasLeast t.quad p q) → (b : Bool) → IsTrue b ↔ Violates leg volume o.at.num o.at.den → IsDecided leg volume
    by_tau p q w d m clear tau t o true h = hit_at p q w o.at o.between (h.0 refl)
    by_tau p q w d m clear tau t o false h = record {
      hit = None;
      is = none_elsewhere leg volume p q m.at o.at w m.between o.between carry clear (λ x. absurd (cc (h.1 x)));
    }
      where
        carry : (n e : ℤ) → IsBetween p q n e → ViolatesHorizontally leg volume n e → ViolatesHorizontally leg volume m.at.num m.at.den ⊎ ViolatesHorizontally leg volume o.at.num o.at.den
        carry n e b = ⊎_elim
            (λ near. inl (inl (near_there leg volume d.quad d.is p q m.at p.positive q.positive m.at.positive m.between m.least n e b near)))
            (λ c. inr (soon_violates leg volume tau o.at.num o.at.den o.at.positive
            ((passes_near-always leg volume o.at.num o.at.den o.at.positive).0 ((passes_near-always leg volume n e b.fraction).1 c.near))
            (soon_at_least leg volume t.quad t.is p q o.at.num o.at.den o.least n e b (subst (λ (w : Model). IsSoon w leg volume n e) tau c.soon))))

    by_nearest : (p q : Point) → UpWindow leg volume p q → (d : HasDistance leg volume) → (m : HasLeast d.quad p q)
        → (b : Bool) → IsTrue b ↔ Violates leg volume m.at.num m.at.den → IsDecided leg volume
    by_nearest p q w d m true h = hit_at p q w m.at m.between (h.0 refl)
    by_nearest p q w d m false h =
        let clear : IsClearAt leg volume m.at = λ x. absurd (cc (h.1 x)) in
        ⊎_elim
        (λ tau.
        let t = tau_quad leg volume r v in
        let o = least_between leg.secs t.quad p q r.short w.last (in_order p q w) in
        by_tau p q w d m clear tau t o _ (violated_is leg volume o.at.num o.at.den))
        (λ other. record {
          hit = None;
          is = none_elsewhere leg volume p q m.at m.at w m.between m.between
              (λ n e b x. inl (violates_there leg volume d.quad d.is p q m.at p.positive q.positive m.at.positive m.between m.least n e b other x))
              clear clear;
        })
        (is_tau volume.model)

    by_window : (ends : Option (Point × Point))
        → MatchOption ends (HoldsNever leg.secs (ViolatesVertically leg volume))
        (λ (p, q). IsWindow leg.secs (ViolatesVertically leg volume) p q)
        → IsDecided leg volume
    by_window None h = record { hit = None; is = λ n d t x. h n d t x.vertical }
    by_window (Some e) w =
        let p : Point = e.0 in
        let q : Point = e.1 in
        let d = distance leg volume r v in
        let m = least_between leg.secs d.quad p q r.short w.last (in_order p q w) in
        by_nearest p q w d m _ (violated_is leg volume m.at.num m.at.den)

module _ (leg : Leg) (volume : Volume) where
  tried : (d n : ℕ) → IsTrue (is_violated_at leg volume d n) ↔ ((pos n ≤ℤ (pos leg.secs *ℤ pos (suc d))) × Violates leg volume (pos n) (pos (suc d)))
  tried d n = both_is _ _ (le_is _ _) (violated_is leg volume (pos n) (pos (suc d)))

  at_point : (n d : ℤ) → pos 0 ≤ℤ n → n ≤ℤ pos (2 ^ 41) → pos 1 ≤ℤ d → d ≤ℤ pos (2 ^ 33) → n ≤ℤ (pos leg.secs *ℤ d) → Violates leg volume n d → IsTrue (is_violated_sometime leg volume)
  unfolding is_violated_sometime
  at_point (pos n) (pos (suc d)) n0 n1 d0 d1 upto v = (some_is _ _).1 (record {
    number = d;
    below = omega (arith, ints);
    holds = (some_is _ _).1 (record { number = n; below = omega (arith, ints); holds = (tried d n).1 (upto, v) });
  })
  at_point (pos n) (pos zero) n0 n1 d0 d1 upto v = absurd (omega (arith, ints))
  at_point (pos n) (negsuc d) n0 n1 d0 d1 upto v = absurd (omega (arith, ints))
  at_point (negsuc n) d n0 n1 d0 d1 upto v = absurd (omega (arith, ints))

  found : IsTrue (is_violated_sometime leg volume) → HoldsSometime leg.secs (Violates leg volume)
  unfolding is_violated_sometime
  found t =
      let d = (some_is _ _).0 t in
      let n = (some_is _ _).0 d.holds in
      let v = (tried d.number n.number).0 n.holds in
      record {
        num = pos n.number;
        den = pos (suc d.number);
        time = record { fraction = omega (arith, ints); from = omega (arith, ints); upto = v.0 };
        holds = v.1;
      }

  by_hit : (hit : Option Point)
      → MatchOption hit (HoldsNever leg.secs (Violates leg volume)) (λ p. IsHit leg volume p.num p.den)
      → HoldsSometime leg.secs (Violates leg volume) → IsTrue (is_violated_sometime leg volume)
  by_hit None h s = absurd (h s.num s.den s.time s.holds)
  by_hit (Some p) h s = at_point p.num p.den p.not_negative p.num_bound p.positive p.den_bound h.time.upto h.violates

  pub sometime_is : IsLegInRange leg → IsVolumeInRange volume → IsTrue (is_violated_sometime leg volume) ↔ HoldsSometime leg.secs (Violates leg volume)
  sometime_is r v = let d = decided leg volume r v in (found, by_hit d.hit d.is)
