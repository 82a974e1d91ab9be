-- A stretch of legs with one velocity is one long leg.
use Rattle.std.proofs.Common.{[], ◌∷◌, ◌≡◌, ℕ, zero, suc, ◌+◌, ◌<◌, ◌≤◌, inl, inr, ap, sym, subst, ◌∙◌, arith, ℤ, pos, ◌+ℤ◌, ◌-ℤ◌, ◌*ℤ◌, ◌≤ℤ◌, ◌<ℤ◌, unsigned_abs, neg_ℤ}
use Rattle.std.proofs.lemmas.Int.{ints, by_lt_z}
use Rattle.daa_fixed.proofs.Ring.{ring, #, ◌⊕◌, ◌⊖◌, ◌⊗◌, mul_nonneg}
use Rattle.daa_fixed.proofs.Integers.{mul_le, le_trans_ℤ}
use Rattle.daa_fixed.specs.declared.Flat.{Flat}
use Rattle.daa_fixed.specs.declared.Solid.{Solid}
use Rattle.daa_fixed.specs.declared.Leg.{Leg}
use Rattle.daa_fixed.specs.Flat.{dot_of, cross_of, square_of}
use Rattle.daa_fixed.specs.Leg.{plus, times}
use Rattle.daa_fixed.specs.Time.{IsTime}
use Rattle.daa_taumod.specs.declared.Volume.{Volume}
use Rattle.daa_taumod.specs.declared.Model.{Model}
use Rattle.daa_taumod.specs.declared.Model.TheVariants.{Tau, Tcpa, Taumod, Tep}
use Rattle.daa_taumod.specs.Volume.{place_at, height_at, IsSoon, ViolatesHorizontally, ViolatesVertically, Violates}
use Rattle.daa_config.specs.declared.config.Rates.{Rates}
use Rattle.daa_config.specs.declared.candidate.Candidate.{Candidate}
use Rattle.daa_config.specs.Settings.{Settings, rates_of}
use Rattle.daa_state.specs.declared.word.Own.{Own}
use Rattle.daa_state.specs.declared.word.Traffic.{Traffic}
use Rattle.daa_legs.specs.declared.own_leg.OwnRun.{OwnRun}
use Rattle.daa_legs.specs.Motion.{velocity_on}
use Rattle.daa_legs.specs.OwnLeg.{place_on}
use Rattle.daa_legs.specs.Relative.{relative_for}
use Rattle.daa_legs.specs.Meeting.{relative_leg}
use Rattle.daa_legs.specs.Runs.{first_leg_of, IsRunOf}
use Rattle.daa_legs.proofs.Places.{place-next}

-- ---- flown straight on
-- from a place, at a velocity, for so long
abbrev pub flown_on : Flat → Flat → ℤ → Flat
flown_on s u t = record { east = s.east +ℤ t *ℤ u.east; north = s.north +ℤ t *ℤ u.north }

pub place_later : (leg : Leg) (n t d : ℤ) → place_at leg (n +ℤ t) d ≡ flown_on (place_at leg n d) leg.velocity.flat t
place_later leg n t d = λ i. record { east = along leg.place.flat.east leg.velocity.flat.east i; north = along leg.place.flat.north leg.velocity.flat.north i }
  where
    along : (x v : ℤ) → d *ℤ x +ℤ (n +ℤ t) *ℤ v ≡ (d *ℤ x +ℤ n *ℤ v) +ℤ t *ℤ v
    along x v = let X = # 0 in let V = # 1 in let N = # 2 in let T = # 3 in let D = # 4 in
        ring (x ∷ v ∷ n ∷ t ∷ d ∷ []) (D ⊗ X ⊕ (N ⊕ T) ⊗ V) ((D ⊗ X ⊕ N ⊗ V) ⊕ T ⊗ V) tt

-- ---- the volume depends on the place and the velocity alone
module _ (l m : Leg) (volume : Volume) (n o d : ℤ) (p : place_at l n d ≡ place_at m o d) (h : height_at l n d ≡ height_at m o d) (v : l.velocity ≡ m.velocity) where
  carry : (P : Flat → Flat → Type 0) → P (place_at l n d) l.velocity.flat → P (place_at m o d) m.velocity.flat
  carry P x = subst (λ (w : Flat). P (place_at m o d) w) (ap (λ (w : Solid). w.flat) v) (subst (λ (w : Flat). P w l.velocity.flat) p x)

  carry_up : (P : ℤ → ℤ → Type 0) → P (height_at l n d) l.velocity.up → P (height_at m o d) m.velocity.up
  carry_up P x = subst (λ (w : ℤ). P (height_at m o d) w) (ap (λ (w : Solid). w.up) v) (subst (λ (w : ℤ). P w l.velocity.up) h x)

  -- so much later
  carry_on : (t : ℤ) (P : Flat → Flat → Type 0) → P (place_at l (n +ℤ t) d) l.velocity.flat → P (place_at m (o +ℤ t) d) m.velocity.flat
  carry_on t P x =
      subst (λ (w : Flat). P w m.velocity.flat) (sym (place_later m o t d))
      (carry (λ (s u : Flat). P (flown_on s u t) u) (subst (λ (w : Flat). P w l.velocity.flat) (place_later l n t d) x))

  soon_moved : (w : Model) → IsSoon w l volume n d → IsSoon w m volume o d
  soon_moved Tau s = carry (λ (s u : Flat). (dot_of s s +ℤ pos volume.tthr *ℤ d *ℤ dot_of s u) ≤ℤ pos 0) s
  soon_moved Taumod s = carry (λ (s u : Flat). (dot_of s s +ℤ pos volume.tthr *ℤ d *ℤ dot_of s u) ≤ℤ square_of (pos volume.dthr *ℤ d)) s
  soon_moved Tcpa s = carry (λ (s u : Flat). neg_ℤ (dot_of s u) ≤ℤ (pos volume.tthr *ℤ d *ℤ dot_of u u)) s
  soon_moved Tep (inl s) = inl (carry_on (pos volume.tthr *ℤ d) (λ (s u : Flat). pos 0 ≤ℤ dot_of s u) s)
  soon_moved Tep (inr s) = inr (carry_on (pos volume.tthr *ℤ d) (λ (s u : Flat). dot_of s s ≤ℤ square_of (pos volume.dthr *ℤ d)) s)

  flat_moved : ViolatesHorizontally l volume n d → ViolatesHorizontally m volume o d
  flat_moved (inl x) = inl (carry (λ (s u : Flat). dot_of s s ≤ℤ square_of (pos volume.dthr *ℤ d)) x)
  flat_moved (inr x) = inr (record {
    nearing = carry (λ (s u : Flat). dot_of s u <ℤ pos 0) x.nearing;
    soon = soon_moved volume.model x.soon;
    near = carry (λ (s u : Flat). square_of (cross_of s u) ≤ℤ (square_of (pos volume.dthr *ℤ d) *ℤ dot_of u u)) x.near;
  })

  up_moved : ViolatesVertically l volume n d → ViolatesVertically m volume o d
  up_moved (inl x) = inl (carry_up (λ (z w : ℤ). pos (unsigned_abs z) ≤ℤ (pos volume.zthr *ℤ d)) x)
  up_moved (inr x) = inr (record {
    nearing = carry_up (λ (z w : ℤ). (z *ℤ w) <ℤ pos 0) x.nearing;
    soon = carry_up (λ (z w : ℤ). pos (unsigned_abs z) ≤ℤ (pos volume.tcoa *ℤ d *ℤ pos (unsigned_abs w))) x.soon;
  })

  pub violates_moved : Violates l volume n d → Violates m volume o d
  violates_moved x = record { horizontal = flat_moved x.horizontal; vertical = up_moved x.vertical }

-- ---- a time of a long leg lies on one of its seconds
pub record IsInSecond (n d : ℤ) (secs : ℕ) : Type 0 where
  pub second : ℕ
  pub before : second < secs
  pub time : IsTime 1 (n -ℤ pos second *ℤ d) d

pub in_second : (secs : ℕ) (n d : ℤ) → IsTime (suc secs) n d → IsInSecond n d (suc secs)
in_second zero n d t = record {
  second = 0;
  before = omega arith;
  time = record { fraction = t.fraction; from = omega (arith, ints, t.from); upto = omega (arith, ints, t.upto) };
}
in_second (suc secs) n d t = by_lt_z (pos (suc secs) *ℤ d) n
    (λ l. record {
      second = suc secs;
      before = omega arith;
      time = record { fraction = t.fraction; from = omega (arith, ints, l); upto = last (suc secs) n d t.upto };
    })
    (λ l. let s = in_second secs n d (record { fraction = t.fraction; from = t.from; upto = l }) in
    record { second = s.second; before = omega (arith, s.before); time = s.time })
  where
    last : (k : ℕ) (n d : ℤ) → n ≤ℤ (pos (suc k) *ℤ d) → (n -ℤ pos k *ℤ d) ≤ℤ (pos 1 *ℤ d)
    last k n d h = omega (arith, ints)

pub out_second : (secs j : ℕ) (n d : ℤ) → j < secs → IsTime 1 n d → IsTime secs (n +ℤ pos j *ℤ d) d
out_second secs j n d h t =
    let d0 : pos 0 ≤ℤ d = omega (arith, ints, t.fraction) in
    let low = mul_nonneg (pos j) d (omega (arith, ints)) d0 in
    let high : (pos (suc j) *ℤ d) ≤ℤ (pos secs *ℤ d) = mul_le (pos (suc j)) (pos secs) d d0 (omega (arith, ints, h)) in
    record {
      fraction = t.fraction;
      from = omega (arith, ints, t.from, low);
      upto = le_trans_ℤ (n +ℤ pos j *ℤ d) (pos (suc j) *ℤ d) (pos secs *ℤ d) (next j n d t.upto) high;
    }
  where
    next : (j : ℕ) (n d : ℤ) → n ≤ℤ (pos 1 *ℤ d) → (n +ℤ pos j *ℤ d) ≤ℤ (pos (suc j) *ℤ d)
    next j n d h = omega (arith, ints)

-- ---- one axis of the other's view, n/d of a second after second k + j, and that much after second k
axis : (p v x k w j n d : ℤ) → d *ℤ ((p +ℤ j *ℤ v) -ℤ (x +ℤ (k +ℤ j) *ℤ w)) +ℤ n *ℤ (v -ℤ w) ≡ d *ℤ (p -ℤ (x +ℤ k *ℤ w)) +ℤ (n +ℤ j *ℤ d) *ℤ (v -ℤ w)
axis p v x k w j n d =
    let P = # 0 in let V = # 1 in let X = # 2 in let K = # 3 in let W = # 4 in let J = # 5 in let N = # 6 in let D = # 7 in
    ring (p ∷ v ∷ x ∷ k ∷ w ∷ j ∷ n ∷ d ∷ [])
    (D ⊗ ((P ⊕ J ⊗ V) ⊖ (X ⊕ (K ⊕ J) ⊗ W)) ⊕ N ⊗ (V ⊖ W))
    (D ⊗ (P ⊖ (X ⊕ K ⊗ W)) ⊕ (N ⊕ J ⊗ D) ⊗ (V ⊖ W))
    tt

-- seconds since the report
since : (age k j : ℕ) → pos (age + (k + j)) ≡ pos (age + k) +ℤ pos j
since age k j = omega (arith, ints)

module _ (own : Own) (rates : Rates) (candidate : Candidate) (k : ℕ) (run : OwnRun) (r : IsRunOf own rates candidate k run) where
  -- the place after j of the run's seconds
  pub place_within : (j : ℕ) → j ≤ run.secs → place_on own rates candidate (k + j) ≡ plus run.place (times (pos j) run.velocity)
  place_within zero h = ap (place_on own rates candidate) none ∙ sym r.begins ∙ (λ i. record {
    flat = record { east = start run.place.flat.east run.velocity.flat.east i; north = start run.place.flat.north run.velocity.flat.north i };
    up = start run.place.up run.velocity.up i;
  })
    where
      none : k + 0 ≡ k
      none = omega arith

      start : (x v : ℤ) → x ≡ x +ℤ pos 0 *ℤ v
      start x v = omega (arith, ints)
  place_within (suc j) h =
      let before : place_on own rates candidate (k + j) ≡ plus run.place (times (pos j) run.velocity) = place_within j (omega (arith, h)) in
      let moves : velocity_on own rates candidate (k + j) ≡ run.velocity = r.same j (omega (arith, h)) in
      ap (place_on own rates candidate) one
      ∙ sym (place-next own rates candidate (k + j))
      ∙ (λ i. plus (before i) (moves i))
      ∙ (λ i. record {
        flat = record { east = step run.place.flat.east run.velocity.flat.east j i; north = step run.place.flat.north run.velocity.flat.north j i };
        up = step run.place.up run.velocity.up j i;
      })
    where
      one : k + suc j ≡ k + j + 1
      one = omega arith

      step : (x v : ℤ) (j : ℕ) → (x +ℤ pos j *ℤ v) +ℤ v ≡ x +ℤ pos (suc j) *ℤ v
      step x v j = omega (arith, ints)

module _ (settings : Settings) (own : Own) (candidate : Candidate) (aircraft : Traffic) (volume : Volume) (k : ℕ) (run : OwnRun) (r : IsRunOf own (rates_of settings) candidate k run) where
  abbrev pub long : Leg
  long = relative_for run.secs (first_leg_of run) aircraft k

  pub short_velocity : (j : ℕ) → j < run.secs → (relative_leg settings own candidate aircraft (k + j)).velocity ≡ long.velocity
  unfolding relative_for
  short_velocity j h = ap (λ (v : Solid). record {
    flat = record { east = v.flat.east -ℤ aircraft.vx; north = v.flat.north -ℤ aircraft.vy };
    up = v.up -ℤ aircraft.vs;
  }) (r.same j h)

  pub short_place : (j : ℕ) → j < run.secs → (n d : ℤ) → place_at (relative_leg settings own candidate aircraft (k + j)) n d ≡ place_at long (n +ℤ pos j *ℤ d) d
  unfolding relative_for
  short_place j h n d =
      let p : place_on own (rates_of settings) candidate (k + j) ≡ plus run.place (times (pos j) run.velocity) = place_within own (rates_of settings) candidate k run r j (omega (arith, h)) in
      let v : velocity_on own (rates_of settings) candidate (k + j) ≡ run.velocity = r.same j h in
      let s = since aircraft.age k j in
      (λ i. record {
        east = d *ℤ ((p i).flat.east -ℤ (pos 36 *ℤ aircraft.x +ℤ s i *ℤ aircraft.vx)) +ℤ n *ℤ ((v i).flat.east -ℤ aircraft.vx);
        north = d *ℤ ((p i).flat.north -ℤ (pos 36 *ℤ aircraft.y +ℤ s i *ℤ aircraft.vy)) +ℤ n *ℤ ((v i).flat.north -ℤ aircraft.vy);
      })
      ∙ (λ i. record {
        east = axis run.place.flat.east run.velocity.flat.east (pos 36 *ℤ aircraft.x) (pos (aircraft.age + k)) aircraft.vx (pos j) n d i;
        north = axis run.place.flat.north run.velocity.flat.north (pos 36 *ℤ aircraft.y) (pos (aircraft.age + k)) aircraft.vy (pos j) n d i;
      })

  pub short_height : (j : ℕ) → j < run.secs → (n d : ℤ) → height_at (relative_leg settings own candidate aircraft (k + j)) n d ≡ height_at long (n +ℤ pos j *ℤ d) d
  unfolding relative_for
  short_height j h n d =
      let p : place_on own (rates_of settings) candidate (k + j) ≡ plus run.place (times (pos j) run.velocity) = place_within own (rates_of settings) candidate k run r j (omega (arith, h)) in
      let v : velocity_on own (rates_of settings) candidate (k + j) ≡ run.velocity = r.same j h in
      let s = since aircraft.age k j in
      (λ i. d *ℤ ((p i).up -ℤ (pos 60 *ℤ aircraft.alt +ℤ s i *ℤ aircraft.vs)) +ℤ n *ℤ ((v i).up -ℤ aircraft.vs))
      ∙ axis run.place.up run.velocity.up (pos 60 *ℤ aircraft.alt) (pos (aircraft.age + k)) aircraft.vs (pos j) n d
