-- The seconds of one straight leg say together what the leg says.
use Rattle.std.proofs.Common.{[], ◌∷◌, ◌≡◌, ◌↔◌, inl, inr, sym, subst, arith, ℕ, zero, suc, ◌+◌, ◌*◌, ◌<◌, ◌≤◌}
use Rattle.std.proofs.Common.{ℤ, pos, ◌+ℤ◌, ◌-ℤ◌, ◌*ℤ◌, ◌≤ℤ◌, ◌<ℤ◌, unsigned_abs}
use Rattle.std.proofs.lemmas.Int.{ints, by_lt_z}
use Rattle.daa_fixed.proofs.Ring.{mul_nonneg, ring, #, ◌⊕◌, ◌⊖◌, ◌⊗◌}
use Rattle.daa_fixed.proofs.Integers.{mul_le, le_trans_ℤ, rest, by_rest}
use Rattle.daa_fixed.specs.Flat.{dot_of, square_of}
use Rattle.daa_fixed.specs.Time.{IsTime, HoldsSometime}
use Rattle.daa_fixed.specs.declared.Flat.{Flat}
use Rattle.daa_fixed.specs.declared.Leg.{Leg}
use Rattle.daa_taumod.specs.declared.Model.{Model}
use Rattle.daa_taumod.specs.declared.Model.TheVariants.{Tau, Tcpa, Taumod, Tep}
use Rattle.daa_taumod.specs.declared.Volume.{Volume}
use Rattle.daa_taumod.specs.Volume.{place_at, height_at}
use Rattle.daa_margin.specs.declared.ErrorBounds.{ErrorBounds}
use Rattle.daa_margin.specs.ErrorBounds.{place_error_at, height_error_at}
use Rattle.daa_margin.specs.MayViolate.{HoldsWithinNext, MayBeNear, square_within, MayBeSoon, MayBeSoonBy, MayBeCoAltitude}
use Rattle.daa_margin.specs.MayViolate.{MayViolateHorizontally, MayViolateVertically, MayViolate}
use Rattle.daa_margin.specs.Later.{second_of, bounds_after, MayViolateOnSomeSecond}
use Rattle.daa_margin.proofs.Growth.{room_of}

-- ---- one axis, and its error
moved_on : (x u n d k : ℤ) → d *ℤ (x +ℤ k *ℤ u) +ℤ n *ℤ u ≡ d *ℤ x +ℤ (n +ℤ k *ℤ d) *ℤ u
moved_on x u n d k = let X = # 0 in let U = # 1 in let N = # 2 in let D = # 3 in let K = # 4 in
    ring (x ∷ u ∷ n ∷ d ∷ k ∷ []) (D ⊗ (X ⊕ K ⊗ U) ⊕ N ⊗ U) (D ⊗ X ⊕ (N ⊕ K ⊗ D) ⊗ U) tt

grown : (p s k : ℕ) (n d : ℤ) → d *ℤ pos (p + k * s) +ℤ n *ℤ pos s ≡ d *ℤ pos p +ℤ (n +ℤ pos k *ℤ d) *ℤ pos s
grown p s k n d = moved_on (pos p) (pos s) n d (pos k)

-- ---- what holds within the next seconds, counted from another second
module _ (secs k : ℕ) (P Q : ℤ → ℤ → Type 0) (n d : ℤ) where
  abbrev on : ℤ → ℤ → ℤ
  on m e = m +ℤ pos k *ℤ e

  pub next_on : ((m e : ℤ) → P m e → Q (on m e) e) → HoldsWithinNext secs P n d → HoldsWithinNext secs Q (on n d) d
  next_on same h = record {
    num = on h.num h.den;
    den = h.den;
    fraction = h.fraction;
    from = by_rest _ _ _
        (let N = # 0 in let D = # 1 in let M = # 2 in let E = # 3 in let K = # 4 in
        ring (n ∷ d ∷ h.num ∷ h.den ∷ pos k ∷ []) ((M ⊕ K ⊗ E) ⊗ D ⊖ (N ⊕ K ⊗ D) ⊗ E) (M ⊗ D ⊖ N ⊗ E) tt)
        (rest _ _ h.from);
    upto = by_rest _ _ _
        (let N = # 0 in let D = # 1 in let M = # 2 in let E = # 3 in let K = # 4 in let T = # 5 in
        ring (n ∷ d ∷ h.num ∷ h.den ∷ pos k ∷ pos secs ∷ []) (((N ⊕ K ⊗ D) ⊕ T ⊗ D) ⊗ E ⊖ (M ⊕ K ⊗ E) ⊗ D) ((N ⊕ T ⊗ D) ⊗ E ⊖ M ⊗ D) tt)
        (rest _ _ h.upto);
    holds = same h.num h.den h.holds;
  }

  pub next_back : ((m e : ℤ) → Q (on m e) e → P m e) → HoldsWithinNext secs Q (on n d) d → HoldsWithinNext secs P n d
  next_back same h = record {
    num = h.num -ℤ pos k *ℤ h.den;
    den = h.den;
    fraction = h.fraction;
    from = by_rest _ _ _
        (let N = # 0 in let D = # 1 in let M = # 2 in let E = # 3 in let K = # 4 in
        ring (n ∷ d ∷ h.num ∷ h.den ∷ pos k ∷ []) ((M ⊖ K ⊗ E) ⊗ D ⊖ N ⊗ E) (M ⊗ D ⊖ (N ⊕ K ⊗ D) ⊗ E) tt)
        (rest _ _ h.from);
    upto = by_rest _ _ _
        (let N = # 0 in let D = # 1 in let M = # 2 in let E = # 3 in let K = # 4 in let T = # 5 in
        ring (n ∷ d ∷ h.num ∷ h.den ∷ pos k ∷ pos secs ∷ []) ((N ⊕ T ⊗ D) ⊗ E ⊖ (M ⊖ K ⊗ E) ⊗ D) (((N ⊕ K ⊗ D) ⊕ T ⊗ D) ⊗ E ⊖ M ⊗ D) tt)
        (rest _ _ h.upto);
    holds = same _ h.den (subst (λ (z : ℤ). Q z h.den) (again h.num (pos k *ℤ h.den)) h.holds);
  }
    where
      again : (x y : ℤ) → x ≡ (x -ℤ y) +ℤ y
      again x y = omega (arith, ints)

module _ (leg : Leg) (volume : Volume) (bounds : ErrorBounds) (k : ℕ) where
  abbrev piece : Leg
  piece = second_of leg k

  abbrev wider : ErrorBounds
  wider = bounds_after bounds k

  abbrev later : ℤ → ℤ → ℤ
  later n d = n +ℤ pos k *ℤ d

  place_same : (n d : ℤ) → place_at piece n d ≡ place_at leg (later n d) d
  place_same n d = λ i. record {
    east = moved_on leg.place.flat.east leg.velocity.flat.east n d (pos k) i;
    north = moved_on leg.place.flat.north leg.velocity.flat.north n d (pos k) i;
  }

  -- a condition on the place and its error, and one on the height and its error
  flat_on : (n d : ℤ) (P : Flat → ℤ → Type 0) → P (place_at piece n d) (place_error_at wider n d) → P (place_at leg (later n d) d) (place_error_at bounds (later n d) d)
  flat_on n d P h = subst (λ (s : Flat). P s (place_error_at bounds (later n d) d)) (place_same n d)
      (subst (λ (e : ℤ). P (place_at piece n d) e) (grown bounds.place bounds.speed k n d) h)

  flat_back : (n d : ℤ) (P : Flat → ℤ → Type 0) → P (place_at leg (later n d) d) (place_error_at bounds (later n d) d) → P (place_at piece n d) (place_error_at wider n d)
  flat_back n d P h = subst (λ (e : ℤ). P (place_at piece n d) e) (sym (grown bounds.place bounds.speed k n d))
      (subst (λ (s : Flat). P s (place_error_at bounds (later n d) d)) (sym (place_same n d)) h)

  up_on : (n d : ℤ) (P : ℤ → ℤ → Type 0) → P (height_at piece n d) (height_error_at wider n d) → P (height_at leg (later n d) d) (height_error_at bounds (later n d) d)
  up_on n d P h = subst (λ (z : ℤ). P z (height_error_at bounds (later n d) d)) (moved_on leg.place.up leg.velocity.up n d (pos k))
      (subst (λ (e : ℤ). P (height_at piece n d) e) (grown bounds.height bounds.climb k n d) h)

  up_back : (n d : ℤ) (P : ℤ → ℤ → Type 0) → P (height_at leg (later n d) d) (height_error_at bounds (later n d) d) → P (height_at piece n d) (height_error_at wider n d)
  up_back n d P h = subst (λ (e : ℤ). P (height_at piece n d) e) (sym (grown bounds.height bounds.climb k n d))
      (subst (λ (z : ℤ). P z (height_error_at bounds (later n d) d)) (sym (moved_on leg.place.up leg.velocity.up n d (pos k))) h)

  abbrev NearBy : ℤ → Flat → ℤ → Type 0
  NearBy d s e = dot_of s s ≤ℤ square_of (pos volume.dthr *ℤ d +ℤ e)

  abbrev middle_by : ℤ → Flat → Flat
  middle_by d s = record {
    east = pos 2 *ℤ s.east +ℤ pos volume.tthr *ℤ d *ℤ leg.velocity.flat.east;
    north = pos 2 *ℤ s.north +ℤ pos volume.tthr *ℤ d *ℤ leg.velocity.flat.north;
  }

  abbrev SoonBy : (speed reach d : ℤ) → Flat → ℤ → Type 0
  SoonBy speed reach d s e =
      dot_of (middle_by d s) (middle_by d s) ≤ℤ room_of d (square_within leg volume bounds speed) reach (pos 2 *ℤ e +ℤ pos volume.tthr *ℤ d *ℤ pos bounds.speed)

  abbrev HighBy : ℤ → ℤ → ℤ → Type 0
  HighBy d z e = pos (unsigned_abs z) ≤ℤ (pos volume.zthr *ℤ d +ℤ e)

  abbrev LevelBy : ℤ → ℤ → Type 0
  LevelBy z e = pos (unsigned_abs z) ≤ℤ e

  soon : (n d : ℤ) → MayBeSoon piece volume wider n d → MayBeSoon leg volume bounds (later n d) d
  soon n d h = record { speed = h.speed; reach = h.reach; speed_is = h.speed_is; reach_is = h.reach_is; soon = flat_on n d (SoonBy h.speed h.reach d) h.soon }

  soon_on : (model : Model) (n d : ℤ) → MayBeSoonBy piece volume wider model n d → MayBeSoonBy leg volume bounds model (later n d) d
  soon_on Tau n d h = soon n d h
  soon_on Tcpa n d h = soon n d h
  soon_on Taumod n d h = soon n d h
  soon_on Tep n d h = tt

  soon_before : (n d : ℤ) → MayBeSoon leg volume bounds (later n d) d → MayBeSoon piece volume wider n d
  soon_before n d h = record { speed = h.speed; reach = h.reach; speed_is = h.speed_is; reach_is = h.reach_is; soon = flat_back n d (SoonBy h.speed h.reach d) h.soon }

  soon_back : (model : Model) (n d : ℤ) → MayBeSoonBy leg volume bounds model (later n d) d → MayBeSoonBy piece volume wider model n d
  soon_back Tau n d h = soon_before n d h
  soon_back Tcpa n d h = soon_before n d h
  soon_back Taumod n d h = soon_before n d h
  soon_back Tep n d h = tt

  near_on : (n d : ℤ) → MayBeNear piece volume wider n d → MayBeNear leg volume bounds (later n d) d
  near_on n d h = flat_on n d (NearBy d) h

  near_back : (n d : ℤ) → MayBeNear leg volume bounds (later n d) d → MayBeNear piece volume wider n d
  near_back n d h = flat_back n d (NearBy d) h

  flat : (n d : ℤ) → MayViolateHorizontally piece volume wider n d → MayViolateHorizontally leg volume bounds (later n d) d
  flat n d (inl h) = inl (near_on n d h)
  flat n d (inr h) = inr (record {
    near = next_on volume.tthr k (MayBeNear piece volume wider) (MayBeNear leg volume bounds) n d near_on h.near;
    soon = soon_on volume.model n d h.soon;
  })

  flat_before : (n d : ℤ) → MayViolateHorizontally leg volume bounds (later n d) d → MayViolateHorizontally piece volume wider n d
  flat_before n d (inl h) = inl (near_back n d h)
  flat_before n d (inr h) = inr (record {
    near = next_back volume.tthr k (MayBeNear piece volume wider) (MayBeNear leg volume bounds) n d near_back h.near;
    soon = soon_back volume.model n d h.soon;
  })

  up : (n d : ℤ) → MayViolateVertically piece volume wider n d → MayViolateVertically leg volume bounds (later n d) d
  up n d (inl h) = inl (up_on n d (HighBy d) h)
  up n d (inr h) = inr (next_on volume.tcoa k (MayBeCoAltitude piece volume wider) (MayBeCoAltitude leg volume bounds) n d (λ m e l. up_on m e LevelBy l) h)

  up_before : (n d : ℤ) → MayViolateVertically leg volume bounds (later n d) d → MayViolateVertically piece volume wider n d
  up_before n d (inl h) = inl (up_back n d (HighBy d) h)
  up_before n d (inr h) = inr (next_back volume.tcoa k (MayBeCoAltitude piece volume wider) (MayBeCoAltitude leg volume bounds) n d (λ m e l. up_back m e LevelBy l) h)

  pub second_is : (n d : ℤ) → MayViolate piece volume wider n d ↔ MayViolate leg volume bounds (later n d) d
  second_is n d = (
    (λ h. record { horizontal = flat n d h.horizontal; vertical = up n d h.vertical }),
    (λ h. record { horizontal = flat_before n d h.horizontal; vertical = up_before n d h.vertical }),
  )

-- ---- a time of a leg lies in one of its seconds
record IsInSecond (secs : ℕ) (n d : ℤ) : Type 0 where
  pub second : ℕ
  pub before : second < secs
  pub time : IsTime 1 (n -ℤ pos second *ℤ d) d

in_second : (secs : ℕ) (n d : ℤ) → IsTime (suc secs) n d → IsInSecond (suc secs) n d
in_second zero n d t = record {
  second = 0;
  before = omega arith;
  time = record { fraction = t.fraction; from = omega (arith, ints, t.from); upto = omega (arith, ints, t.upto) };
}
in_second (suc secs) n d t = by_lt_z (pos (suc secs) *ℤ d) n
    (λ l. record {
      second = suc secs;
      before = omega arith;
      time = record { fraction = t.fraction; from = omega (arith, ints, l); upto = last (suc secs) n d t.upto };
    })
    (λ l. let s = in_second secs n d (record { fraction = t.fraction; from = t.from; upto = l }) in
    record { second = s.second; before = omega (arith, s.before); time = s.time })
  where
    last : (k : ℕ) (n d : ℤ) → n ≤ℤ (pos (suc k) *ℤ d) → (n -ℤ pos k *ℤ d) ≤ℤ (pos 1 *ℤ d)
    last k n d h = omega (arith, ints)

some_second : (secs : ℕ) (n d : ℤ) → 1 ≤ secs → IsTime secs n d → IsInSecond secs n d
some_second zero n d some t = absurd (none some)
  where
    none : 1 ≤ 0 → ⊥
    none h = omega (arith, h)
some_second (suc secs) n d some t = in_second secs n d t

out_second : (secs k : ℕ) (n d : ℤ) → k < secs → IsTime 1 n d → IsTime secs (n +ℤ pos k *ℤ d) d
out_second secs k n d h t =
    let d0 : pos 0 ≤ℤ d = omega (arith, ints, t.fraction) in
    let low = mul_nonneg (pos k) d (omega (arith, ints)) d0 in
    let high : (pos (suc k) *ℤ d) ≤ℤ (pos secs *ℤ d) = mul_le (pos (suc k)) (pos secs) d d0 (omega (arith, ints, h)) in
    record {
      fraction = t.fraction;
      from = omega (arith, ints, t.from, low);
      upto = le_trans_ℤ (n +ℤ pos k *ℤ d) (pos (suc k) *ℤ d) (pos secs *ℤ d) (next k n d t.upto) high;
    }
  where
    next : (k : ℕ) (n d : ℤ) → n ≤ℤ (pos 1 *ℤ d) → (n +ℤ pos k *ℤ d) ≤ℤ (pos (suc k) *ℤ d)
    next k n d h = omega (arith, ints)

module _ (leg : Leg) (volume : Volume) (bounds : ErrorBounds) (some : 1 ≤ leg.secs) where
  apart : HoldsSometime leg.secs (MayViolate leg volume bounds) → MayViolateOnSomeSecond leg volume bounds
  apart h =
      let s = some_second leg.secs h.num h.den some h.time in
      record {
        second = s.second;
        before = s.before;
        holds = record {
          num = h.num -ℤ pos s.second *ℤ h.den;
          den = h.den;
          time = s.time;
          holds = (second_is leg volume bounds s.second (h.num -ℤ pos s.second *ℤ h.den) h.den).1
              (subst (λ (z : ℤ). MayViolate leg volume bounds z h.den) (again h.num (pos s.second *ℤ h.den)) h.holds);
        };
      }
    where
      again : (x y : ℤ) → x ≡ (x -ℤ y) +ℤ y
      again x y = omega (arith, ints)

  together : MayViolateOnSomeSecond leg volume bounds → HoldsSometime leg.secs (MayViolate leg volume bounds)
  together s = record {
    num = s.holds.num +ℤ pos s.second *ℤ s.holds.den;
    den = s.holds.den;
    time = out_second leg.secs s.second s.holds.num s.holds.den s.before s.holds.time;
    holds = (second_is leg volume bounds s.second s.holds.num s.holds.den).0 s.holds.holds;
  }

  pub seconds_are : HoldsSometime leg.secs (MayViolate leg volume bounds) ↔ MayViolateOnSomeSecond leg volume bounds
  seconds_are = (apart, together)
