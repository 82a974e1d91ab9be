-- A leg is its seconds, also where the reports may err: so is a run of a flight.
use Rattle.std.proofs.Common.{[], ◌∷◌, ◌≡◌, ◌↔◌, refl, sym, subst, ap, ◌∙◌, arith, ℕ, zero, suc, ◌+◌, ◌-◌, ◌<◌, ◌≤◌, ℤ, pos, ◌+ℤ◌, ◌-ℤ◌, ◌*ℤ◌, Bool, true, false}
use Rattle.std.proofs.lemmas.Int.{ints}
use Rattle.daa_fixed.proofs.Ring.{ring, #, ◌⊕◌, ◌⊖◌, ◌⊗◌}
use Rattle.daa_fixed.specs.Leg.{plus, minus, times}
use Rattle.daa_fixed.specs.Time.{HoldsSometime}
use Rattle.daa_fixed.specs.declared.Leg.{Leg}
use Rattle.daa_taumod.specs.declared.Volume.{Volume}
use Rattle.daa_taumod.specs.Volume.{place_at, height_at, Violates}
use Rattle.daa_config.specs.declared.candidate.Candidate.{Candidate}
use Rattle.daa_config.specs.Settings.{Settings, rates_of}
use Rattle.daa_state.specs.declared.word.Own.{Own}
use Rattle.daa_state.specs.declared.word.Traffic.{Traffic}
use Rattle.daa_legs.specs.declared.own_leg.OwnLeg.{OwnLeg}
use Rattle.daa_legs.specs.declared.own_leg.OwnRun.{OwnRun}
use Rattle.daa_legs.specs.OwnLeg.{own_leg}
use Rattle.daa_legs.specs.Relative.{relative_for, traffic_place, traffic_velocity}
use Rattle.daa_legs.specs.Meeting.{relative_leg}
use Rattle.daa_legs.specs.Runs.{first_leg_of, IsRunOf, MeetsBetween}
use Rattle.daa_legs.proofs.Stretches.{in_second, out_second, place_within, violates_moved}
use Rattle.daa_margin.specs.declared.ErrorBounds.{ErrorBounds}
use Rattle.daa_margin.specs.MayViolate.{MayViolate}
use Rattle.daa_margin.specs.Later.{second_of, bounds_after}
use Rattle.daa_margin.proofs.Later.{seconds_are}
use Rattle.daa_legs.specs.Errors.{are_exact, errors_on}
use Rattle.daa_legs.specs.Violating.{ViolatesIf, ViolatesBy}
use Rattle.daa_legs.proofs.Growing.{errors_later}

-- ---- one leg and its seconds

-- the volume is violated on one of the first seconds of a leg that begins at second k, each of them a leg
pub record IsOnSecond (aircraft : Traffic) (volume : Volume) (k secs : ℕ) (short : ℕ → Leg) : Type 0 where
  pub second : ℕ
  pub before : second < secs
  pub holds : HoldsSometime 1 (ViolatesBy aircraft (k + second) (short second) volume)

-- one axis, j seconds on
axis_on : (x u n d j : ℤ) → d *ℤ (x +ℤ j *ℤ u) +ℤ n *ℤ u ≡ d *ℤ x +ℤ (n +ℤ j *ℤ d) *ℤ u
axis_on x u n d j = let X = # 0 in let U = # 1 in let N = # 2 in let D = # 3 in let J = # 4 in
    ring (x ∷ u ∷ n ∷ d ∷ j ∷ []) (D ⊗ (X ⊕ J ⊗ U) ⊕ N ⊗ U) (D ⊗ X ⊕ (N ⊕ J ⊗ D) ⊗ U) tt

module _ (long : Leg) (volume : Volume) where
  place_on_second : (j : ℕ) (n d : ℤ) → place_at (second_of long j) n d ≡ place_at long (n +ℤ pos j *ℤ d) d
  place_on_second j n d = λ i. record {
    east = axis_on long.place.flat.east long.velocity.flat.east n d (pos j) i;
    north = axis_on long.place.flat.north long.velocity.flat.north n d (pos j) i;
  }

  height_on_second : (j : ℕ) (n d : ℤ) → height_at (second_of long j) n d ≡ height_at long (n +ℤ pos j *ℤ d) d
  height_on_second j n d = axis_on long.place.up long.velocity.up n d (pos j)

  -- what is violated on a second, as reported, is so on the leg
  to_long : (j : ℕ) → j < long.secs → HoldsSometime 1 (Violates (second_of long j) volume) → HoldsSometime long.secs (Violates long volume)
  to_long j h x = record {
    num = x.num +ℤ pos j *ℤ x.den;
    den = x.den;
    time = out_second long.secs j x.num x.den h x.time;
    holds = violates_moved (second_of long j) long volume x.num (x.num +ℤ pos j *ℤ x.den) x.den
        (place_on_second j x.num x.den) (height_on_second j x.num x.den) refl x.holds;
  }

  record IsExactlyOn : Type 0 where
    second : ℕ
    before : second < long.secs
    holds : HoldsSometime 1 (Violates (second_of long second) volume)

  from_long : (secs : ℕ) → secs ≡ long.secs → 1 ≤ secs → HoldsSometime secs (Violates long volume) → IsExactlyOn
  from_long zero e some x = absurd (omega (arith, some))
  from_long (suc secs) e some x =
      let s = in_second secs x.num x.den x.time in
      let n : ℤ = x.num -ℤ pos s.second *ℤ x.den in
      let back : n +ℤ pos s.second *ℤ x.den ≡ x.num = omega (arith, ints) in
      record {
        second = s.second;
        before = omega (arith, s.before, e);
        holds = record {
          num = n;
          den = x.den;
          time = s.time;
          holds = violates_moved long (second_of long s.second) volume x.num n x.den
              (sym (place_on_second s.second n x.den ∙ ap (λ (z : ℤ). place_at long z x.den) back))
              (sym (height_on_second s.second n x.den ∙ ap (λ (z : ℤ). height_at long z x.den) back))
              refl x.holds;
        };
      }

module _ (aircraft : Traffic) (volume : Volume) (k : ℕ) (long : Leg) (short : ℕ → Leg) (same : (j : ℕ) → j < long.secs → short j ≡ second_of long j) (some : 1 ≤ long.secs) where
  abbrev errors : ℕ → ErrorBounds
  errors j = errors_on aircraft.bounds aircraft.age j

  abbrev If : Bool → Leg → ErrorBounds → Type 0
  If exact leg bounds = HoldsSometime 1 (ViolatesIf exact leg volume bounds)

  -- both cases
  by_seconds : (exact : Bool) → HoldsSometime long.secs (ViolatesIf exact long volume (errors k))
      ↔ ((j : ℕ) × (j < long.secs) × If exact (short j) (errors (k + j)))
  by_seconds true = (
    (λ x. let s = from_long long volume long.secs refl some x in
        (s.second, s.before, subst (λ (l : Leg). HoldsSometime 1 (Violates l volume)) (sym (same s.second s.before)) s.holds)),
    (λ (j, h, x). to_long long volume j h (subst (λ (l : Leg). HoldsSometime 1 (Violates l volume)) (same j h) x)),
  )
  by_seconds false =
      let s = seconds_are long volume (errors k) some in (
        (λ x. let y = s.0 x in (
          y.second,
          y.before,
          subst (λ (e : ErrorBounds). HoldsSometime 1 (MayViolate (short y.second) volume e)) (errors_later aircraft.bounds aircraft.age k y.second)
              (subst (λ (l : Leg). HoldsSometime 1 (MayViolate l volume (bounds_after (errors k) y.second))) (sym (same y.second y.before)) y.holds),
        )),
        (λ (j, h, x). s.1 (record {
          second = j;
          before = h;
          holds = subst (λ (l : Leg). HoldsSometime 1 (MayViolate l volume (bounds_after (errors k) j))) (same j h)
              (subst (λ (e : ErrorBounds). HoldsSometime 1 (MayViolate (short j) volume e)) (sym (errors_later aircraft.bounds aircraft.age k j)) x);
        })),
      )

  pub leg_seconds : HoldsSometime long.secs (ViolatesBy aircraft k long volume) ↔ IsOnSecond aircraft volume k long.secs short
  leg_seconds = let s = by_seconds (are_exact aircraft.bounds) in (
    (λ x. let y = s.0 x in record { second = y.0; before = y.1; holds = y.2 }),
    (λ y. s.1 (y.second, y.before, y.holds)),
  )

-- ---- a run of a flight

-- one axis of the other's view at second k + j, and j seconds after second k
axis : (p v x w : ℤ) (age k j : ℕ) → (p +ℤ pos j *ℤ v) -ℤ (x +ℤ pos (age + (k + j)) *ℤ w) ≡ (p -ℤ (x +ℤ pos (age + k) *ℤ w)) +ℤ pos j *ℤ (v -ℤ w)
axis p v x w age k j =
    let P = # 0 in let V = # 1 in let X = # 2 in let W = # 3 in let A = # 4 in let K = # 5 in let J = # 6 in
    ring (p ∷ v ∷ x ∷ w ∷ pos age ∷ pos k ∷ pos j ∷ [])
    ((P ⊕ J ⊗ V) ⊖ (X ⊕ (A ⊕ (K ⊕ J)) ⊗ W))
    ((P ⊖ (X ⊕ (A ⊕ K) ⊗ W)) ⊕ J ⊗ (V ⊖ W))
    tt

-- what an aircraft sees of a leg that is second j of a run
pub second_seen : (aircraft : Traffic) (k j : ℕ) (run : OwnRun) (leg : OwnLeg) → leg.place ≡ plus run.place (times (pos j) run.velocity) → leg.velocity ≡ run.velocity
    → relative_for 1 leg aircraft (k + j) ≡ second_of (relative_for run.secs (first_leg_of run) aircraft k) j
unfolding relative_for
second_seen aircraft k j run leg p v =
    (λ i. record { place = minus (p i) (traffic_place aircraft (k + j)); velocity = minus (v i) (traffic_velocity aircraft); secs = 1 })
    ∙ (λ i. record {
      place = record {
        flat = record {
          east = axis run.place.flat.east run.velocity.flat.east (pos 36 *ℤ aircraft.x) aircraft.vx aircraft.age k j i;
          north = axis run.place.flat.north run.velocity.flat.north (pos 36 *ℤ aircraft.y) aircraft.vy aircraft.age k j i;
        };
        up = axis run.place.up run.velocity.up (pos 60 *ℤ aircraft.alt) aircraft.vs aircraft.age k j i;
      };
      velocity = minus run.velocity (traffic_velocity aircraft);
      secs = 1;
    })

module _ (settings : Settings) (own : Own) (candidate : Candidate) (aircraft : Traffic) (volume : Volume)
    (k : ℕ) (run : OwnRun) (r : IsRunOf own (rates_of settings) candidate k run) where
  abbrev whole : Leg
  whole = relative_for run.secs (first_leg_of run) aircraft k

  abbrev on : ℕ → Leg
  on j = relative_leg settings own candidate aircraft j

  second_is : (j : ℕ) → j < run.secs → on (k + j) ≡ second_of whole j
  second_is j h = second_seen aircraft k j run (own_leg own (rates_of settings) candidate (k + j))
      (place_within own (rates_of settings) candidate k run r j (omega (arith, h))) (r.same j h)

  pub run_seconds : 1 ≤ run.secs → HoldsSometime run.secs (ViolatesBy aircraft k whole volume)
      ↔ MeetsBetween settings own candidate aircraft volume k (k + run.secs)
  unfolding relative_for
  run_seconds some = let s = leg_seconds aircraft volume k whole (λ j. on (k + j)) second_is some in (
    (λ x. let y = s.0 x in record { leg = k + y.second; not_before = omega arith; before = next y.second y.before; violates = y.holds }),
    (λ m. s.1 (back m.leg m.not_before m.before m.violates)),
  )
    where
      next : (j : ℕ) → j < run.secs → k + j < k + run.secs
      next j h = omega (arith, h)

      back : (leg : ℕ) → k ≤ leg → leg < k + run.secs → HoldsSometime 1 (ViolatesBy aircraft leg (on leg) volume) → IsOnSecond aircraft volume k run.secs (λ j. on (k + j))
      back leg from upto x =
          let j : ℕ = leg - k in
          let same : leg ≡ k + j = omega (arith, from) in
          record {
            second = j;
            before = omega (arith, from, upto);
            holds = subst (λ (i : ℕ). HoldsSometime 1 (ViolatesBy aircraft i (on i) volume)) same x;
          }
