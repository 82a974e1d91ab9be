-- Whether the volume may be violated at some time of a leg can be decided: its vertical window is there or not, and decides.
use Rattle.std.proofs.Common.{◌≡◌, ◌↔◌, ◌⊎◌, inl, inr, ⊎_elim, refl, arith, ℕ, ◌<◌, ◌≤◌, ℤ, pos, ◌+ℤ◌, ◌*ℤ◌, ◌-ℤ◌, neg_ℤ, ◌≤ℤ◌, ◌<ℤ◌, unsigned_abs}
use Rattle.std.proofs.lemmas.Int.{ints, by_lt_z}
use Rattle.std.specs.Int.{int_max}
use Rattle.daa_fixed.proofs.Integers.{mul_le_left, sum_nonneg, le_trans_ℤ}
use Rattle.daa_fixed.proofs.Decidable.{IsDecidable, as_decided, both_decided}
use Rattle.daa_fixed.specs.Leg.{IsLegInRange}
use Rattle.daa_fixed.specs.Time.{IsTime, HoldsSometime, HoldsNever}
use Rattle.daa_fixed.specs.declared.Leg.{Leg}
use Rattle.daa_fixed.specs.declared.Point.{Point}
use Rattle.daa_taumod.specs.Volume.{IsVolumeInRange}
use Rattle.daa_taumod.specs.declared.Volume.{Volume}
use Rattle.daa_vwindow.proofs.Bands.{IsMax, max_is}
use Rattle.daa_vwindow.specs.Window.{IsWindow}
use Rattle.daa_margin.specs.ErrorBounds.{AreErrorBoundsInRange}
use Rattle.daa_margin.specs.Inside.Between.{HoldsBetween}
use Rattle.daa_margin.specs.Inside.Cone.{DipsBetween}
use Rattle.daa_margin.specs.Inside.Heights.{IsReached, IsLastKept, IsInReach, gap_of}
use Rattle.daa_margin.specs.MayViolate.{MayBeNear, MayViolateVertically, MayViolate}
use Rattle.daa_margin.specs.declared.ErrorBounds.{ErrorBounds}
use Rattle.daa_margin.proofs.Cones.{near_between_is}
use Rattle.daa_margin.proofs.Decided.{le_decided, lt_decided, either_decided, soon_by_decided}
use Rattle.daa_margin.proofs.Deciding.{decides, to_last, to_later}
use Rattle.daa_margin.proofs.Lines.{above_is, below_is}
use Rattle.daa_margin.proofs.Stretches.{moves, moves_past, kept_all, kept_until, reached_at_once, reached_later, reached_never, IsEarlier, in_reach, out_of_reach}

less : (x y : ℤ) → x <ℤ y → x ≤ℤ y
less x y h = omega (arith, ints)

self : (x : ℤ) → x ≤ℤ x
self x = omega (arith, ints)

-- ---- times
abbrev beginning : Point
beginning = record { num = pos 0; den = pos 1; not_negative = omega (arith, ints); num_bound = omega (arith, ints); positive = omega (arith, ints); den_bound = omega (arith, ints) }

abbrev end_of : (secs : ℕ) → secs ≤ 180 → Point
end_of secs h = record {
  num = pos secs;
  den = pos 1;
  not_negative = omega (arith, ints);
  num_bound = omega (arith, ints, h);
  positive = omega (arith, ints);
  den_bound = omega (arith, ints);
}

abbrev made_good : (way pace : ℤ) → pos 0 ≤ℤ way → way ≤ℤ pos 60000000 → pos 1 ≤ℤ pace → pace ≤ℤ pos 60000 → Point
made_good way pace w0 w1 p1 p2 = record {
  num = way;
  den = pace;
  not_negative = w0;
  num_bound = omega (arith, ints, w1);
  positive = p1;
  den_bound = omega (arith, ints, p2);
}

-- ---- the window of what does not begin below
pub record HasLastKept (secs : ℕ) (room pace : ℤ) : Type 0 where
  pub last : Point
  pub is : IsLastKept secs room pace last

pub record HasWindow (secs : ℕ) (P : ℤ → ℤ → Type 0) : Type 0 where
  pub first : Point
  pub last : Point
  pub is : IsWindow secs P first last

pub record HasEarlier (p q : Point) : Type 0 where
  pub time : Point
  pub is : IsEarlier p q time

earlier : (p q : Point) → HasEarlier p q
earlier p q = by_lt_z (q.num *ℤ p.den) (p.num *ℤ q.den)
    (λ l. record { time = q; is = record { one = inr refl; first = less _ _ l; second = self _ } })
    (λ l. record { time = p; is = record { one = inl refl; first = self _; second = l } })

module _ (secs : ℕ) (short : secs ≤ 180) where
  last_kept : (room pace : ℤ) → pos 0 ≤ℤ room → room ≤ℤ pos 60000000 → pace ≤ℤ pos 60000 → HasLastKept secs room pace
  last_kept room pace r0 r1 p1 = by_lt_z room (pos secs *ℤ pace)
      (λ h. let q = made_good room pace r0 r1 (moves_past secs room pace r0 h) p1 in record { last = q; is = kept_until secs room pace r0 q h refl refl })
      (λ h. let q = end_of secs short in record { last = q; is = kept_all secs room pace r0 q h refl refl })

  reached : (gap pace : ℤ) → neg_ℤ (pos 60000000) ≤ℤ gap → gap ≤ℤ pos 60000000 → neg_ℤ (pos 60000) ≤ℤ pace → pace ≤ℤ pos 60000
      → HoldsNever secs (IsReached gap pace) ⊎ HasWindow secs (IsReached gap pace)
  reached gap pace g0 g1 p0 p1 = by_lt_z (pos 0) gap
      (λ later. by_lt_z (pos secs *ℤ pace) gap
      (λ far. inl (reached_never secs gap pace later far))
      (λ h. let p = made_good gap pace (less _ _ later) g1 (moves secs gap pace (one gap later) h) p1 in
      inr (record { first = p; last = end_of secs short; is = reached_later secs gap pace p (end_of secs short) later h refl refl refl refl })))
      (λ now. let k = last_kept (neg_ℤ gap) (neg_ℤ pace) (turned gap now) (turned_most gap g0) (turned_pace pace p0) in
      inr (record { first = beginning; last = k.last; is = reached_at_once secs gap pace beginning k.last now refl refl k.is }))
    where
      one : (x : ℤ) → pos 0 <ℤ x → pos 1 ≤ℤ x
      one x h = omega (arith, ints)

      turned : (x : ℤ) → x ≤ℤ pos 0 → pos 0 ≤ℤ neg_ℤ x
      turned x h = omega (arith, ints)

      turned_most : (x : ℤ) → neg_ℤ (pos 60000000) ≤ℤ x → neg_ℤ x ≤ℤ pos 60000000
      turned_most x h = omega (arith, ints)

      turned_pace : (x : ℤ) → neg_ℤ (pos 60000) ≤ℤ x → neg_ℤ x ≤ℤ pos 60000
      turned_pace x h = omega (arith, ints)

  module _ (height speed : ℤ) (volume : Volume) (bounds : ErrorBounds) (v : IsVolumeInRange volume) (b : AreErrorBoundsInRange bounds)
      (h0 : pos 0 ≤ℤ height) (h1 : height ≤ℤ pos 40000000) (s0 : neg_ℤ (pos 40000) ≤ℤ speed) (s1 : speed ≤ℤ pos 40000) where
    abbrev gap : ℤ
    gap = gap_of (height -ℤ pos bounds.height) (pos bounds.climb -ℤ speed) volume

    abbrev nearing : ℤ
    nearing = pos bounds.climb -ℤ speed

    abbrev room : ℤ
    room = height +ℤ pos bounds.height +ℤ pos volume.zthr

    -- what may be lost in tcoa seconds is at most 120 times 60000
    max_most : (t : ℕ) (z m x : ℤ) → t ≤ 120 → z ≤ℤ pos 600000 → x ≤ℤ pos 60000 → IsMax m z (pos t *ℤ x) → m ≤ℤ pos 7200000
    max_most t z m x ht z1 hx k = ⊎_elim
        (λ e. as_z m z e z1)
        (λ e. as_lost m _ (pos t *ℤ pos 60000) e (mul_le_left (pos t) x (pos 60000) (omega (arith, ints)) hx) (all t ht))
        k.one
      where
        as_z : (m z : ℤ) → m ≡ z → z ≤ℤ pos 600000 → m ≤ℤ pos 7200000
        as_z m z e h = omega (arith, ints)

        as_lost : (m y u : ℤ) → m ≡ y → y ≤ℤ u → u ≤ℤ pos 7200000 → m ≤ℤ pos 7200000
        as_lost m y u e h k = omega (arith, ints)

        all : (t : ℕ) → t ≤ 120 → (pos t *ℤ pos 60000) ≤ℤ pos 7200000
        all t h = omega (arith, ints, h)

    x : IsMax (int_max (pos volume.zthr) (pos volume.tcoa *ℤ nearing)) (pos volume.zthr) (pos volume.tcoa *ℤ nearing)
    x = max_is _ _ refl

    natural : (k m : ℕ) → k ≤ m → pos k ≤ℤ pos m
    natural k m h = omega (arith, ints)

    natural0 : (k : ℕ) → pos 0 ≤ℤ pos k
    natural0 k = omega (arith, ints)

    gap_least : (h a m : ℤ) → pos 0 ≤ℤ h → a ≤ℤ pos 6000000 → m ≤ℤ pos 7200000 → neg_ℤ (pos 60000000) ≤ℤ ((h -ℤ a) -ℤ m)
    gap_least h a m i j k = omega (arith, ints)

    gap_most : (h a m : ℤ) → h ≤ℤ pos 40000000 → pos 0 ≤ℤ a → pos 0 ≤ℤ m → ((h -ℤ a) -ℤ m) ≤ℤ pos 60000000
    gap_most h a m i j k = omega (arith, ints)

    room_most : (h a z : ℤ) → h ≤ℤ pos 40000000 → a ≤ℤ pos 6000000 → z ≤ℤ pos 600000 → (h +ℤ a +ℤ z) ≤ℤ pos 60000000
    room_most h a z i j k = omega (arith, ints)

    nearing_least : (w c : ℤ) → w ≤ℤ pos 40000 → pos 0 ≤ℤ c → neg_ℤ (pos 60000) ≤ℤ (c -ℤ w)
    nearing_least w c i j = omega (arith, ints)

    nearing_most : (w c : ℤ) → neg_ℤ (pos 40000) ≤ℤ w → c ≤ℤ pos 20000 → (c -ℤ w) ≤ℤ pos 60000
    nearing_most w c i j = omega (arith, ints)

    sinking_most : (w c : ℤ) → neg_ℤ (pos 40000) ≤ℤ w → pos 0 ≤ℤ c → (neg_ℤ w -ℤ c) ≤ℤ pos 60000
    sinking_most w c i j = omega (arith, ints)

    lost : int_max (pos volume.zthr) (pos volume.tcoa *ℤ nearing) ≤ℤ pos 7200000
    lost = max_most volume.tcoa (pos volume.zthr) _ nearing v.tcoa (natural _ _ v.zthr) (nearing_most speed _ s0 (natural _ _ b.climb)) x

    kept : HasLastKept secs room (neg_ℤ speed -ℤ pos bounds.climb)
    kept = last_kept room (neg_ℤ speed -ℤ pos bounds.climb) (sum_nonneg _ _ (sum_nonneg _ _ h0 (natural0 bounds.height)) (natural0 volume.zthr))
        (room_most height _ _ h1 (natural _ _ b.height) (natural _ _ v.zthr)) (sinking_most speed _ s0 (natural0 bounds.climb))

    in_window : HasWindow secs (IsReached gap nearing) → HoldsNever secs (IsInReach height speed volume bounds) ⊎ HasWindow secs (IsInReach height speed volume bounds)
    in_window w =
        let r = earlier w.last kept.last in
        by_lt_z (r.time.num *ℤ w.first.den) (w.first.num *ℤ r.time.den)
        (λ early. inl (out_of_reach secs height speed volume bounds w.first w.last kept.last r.time w.is kept.is r.is early))
        (λ order. inr (record { first = w.first; last = r.time; is = in_reach secs height speed volume bounds w.first w.last kept.last r.time w.is kept.is r.is order }))

    pub above : HoldsNever secs (IsInReach height speed volume bounds) ⊎ HasWindow secs (IsInReach height speed volume bounds)
    above = ⊎_elim (λ never. inl (λ n d t h. never n d t h.reached)) in_window
        (reached gap nearing (gap_least height _ _ h0 (natural _ _ b.height) lost)
        (gap_most height _ _ h1 (natural0 bounds.height) (le_trans_ℤ _ _ _ (natural0 volume.zthr) x.left))
        (nearing_least speed _ s1 (natural0 bounds.climb)) (nearing_most speed _ s0 (natural _ _ b.climb)))

-- ---- of a leg
module _ (leg : Leg) (volume : Volume) (bounds : ErrorBounds) (l : IsLegInRange leg) (v : IsVolumeInRange volume) (b : AreErrorBoundsInRange bounds) where
  abbrev Vertical : ℤ → ℤ → Type 0
  Vertical = MayViolateVertically leg volume bounds

  as_vertical : (P : ℤ → ℤ → Type 0) → ((n d : ℤ) → IsTime leg.secs n d → (P n d ↔ Vertical n d)) → HoldsNever leg.secs P ⊎ HasWindow leg.secs P
      → HoldsNever leg.secs Vertical ⊎ HasWindow leg.secs Vertical
  as_vertical P same (inl never) = inl (λ n d t h. never n d t ((same n d t).1 h))
  as_vertical P same (inr w) = inr (record {
    first = w.first;
    last = w.last;
    is = record {
      first = w.is.first;
      last = w.is.last;
      holds_first = (same w.first.num w.first.den w.is.first).0 w.is.holds_first;
      holds_last = (same w.last.num w.last.den w.is.last).0 w.is.holds_last;
      exact = λ n d t. ((λ h. (w.is.exact n d t).0 ((same n d t).1 h)), (λ i. (same n d t).0 ((w.is.exact n d t).1 i)));
    };
  })

  size_most : (x : ℤ) (m : ℕ) → unsigned_abs x < m → x ≤ℤ pos m
  size_most x m h = omega (arith, ints)

  size_least : (x : ℤ) (m : ℕ) → unsigned_abs x < m → neg_ℤ (pos m) ≤ℤ x
  size_least x m h = omega (arith, ints)

  turned_most : (x : ℤ) (m : ℕ) → unsigned_abs x < m → neg_ℤ x ≤ℤ pos m
  turned_most x m h = omega (arith, ints)

  turned_least : (x : ℤ) (m : ℕ) → unsigned_abs x < m → neg_ℤ (pos m) ≤ℤ neg_ℤ x
  turned_least x m h = omega (arith, ints)

  turned : (x : ℤ) → x <ℤ pos 0 → pos 0 ≤ℤ neg_ℤ x
  turned x h = omega (arith, ints)

  vertical : HoldsNever leg.secs Vertical ⊎ HasWindow leg.secs Vertical
  vertical = by_lt_z leg.place.up (pos 0)
      (λ down. as_vertical (IsInReach (neg_ℤ leg.place.up) (neg_ℤ leg.velocity.up) volume bounds) (λ n d t. below_is leg volume bounds down n d t.from t.fraction)
      (above leg.secs l.short (neg_ℤ leg.place.up) (neg_ℤ leg.velocity.up) volume bounds v b (turned _ down)
      (turned_most _ 40000000 l.up) (turned_least _ 40000 l.up_speed) (turned_most _ 40000 l.up_speed)))
      (λ up. as_vertical (IsInReach leg.place.up leg.velocity.up volume bounds) (λ n d t. above_is leg volume bounds n d t.from t.fraction up)
      (above leg.secs l.short leg.place.up leg.velocity.up volume bounds v b up
      (size_most _ 40000000 l.up) (size_least _ 40000 l.up_speed) (size_most _ 40000 l.up_speed)))

  -- whether the distance may be at most dthr between two times
  near_decided : (n d m e : ℤ) → pos 1 ≤ℤ d → pos 1 ≤ℤ e → (n *ℤ e) ≤ℤ (m *ℤ d) → IsDecidable (HoldsBetween (MayBeNear leg volume bounds) n d m e)
  near_decided n d m e d1 e1 order = as_decided (near_between_is leg volume bounds n d m e d1 e1 order) (either_decided (le_decided _ _) (either_decided (le_decided _ _) dips))
    where
      dips : IsDecidable (DipsBetween leg volume bounds n d m e)
      dips = ⊎_elim (λ i. ⊎_elim (λ j. ⊎_elim (λ k. inl (record { falls = i; rises = j; near = k }))
          (λ no_k. inr (λ h. no_k h.near)) (le_decided _ _)) (λ no_j. inr (λ h. no_j h.rises)) (lt_decided _ _)) (λ no_i. inr (λ h. no_i h.falls)) (lt_decided _ _)

  by_window : HasWindow leg.secs Vertical → IsDecidable (HoldsSometime leg.secs (MayViolate leg volume bounds))
  by_window w =
      let p = w.first in
      let q = w.last in
      as_decided (decides leg volume bounds p q w.is)
      (both_decided _ _
      (near_decided p.num p.den (q.num +ℤ pos volume.tthr *ℤ q.den) q.den w.is.first.fraction w.is.last.fraction (to_later leg volume bounds p q w.is))
      (either_decided (near_decided p.num p.den q.num q.den w.is.first.fraction w.is.last.fraction (to_last leg volume bounds p q w.is))
      (soon_by_decided leg volume bounds q.num q.den w.is.last.from w.is.last.fraction volume.model)))

  pub sometime_decided : IsDecidable (HoldsSometime leg.secs (MayViolate leg volume bounds))
  sometime_decided = ⊎_elim (λ never. inr (λ h. never h.num h.den h.time h.holds.vertical)) by_window vertical
