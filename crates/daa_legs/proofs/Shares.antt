-- What a candidate shares with the present flight: who changes track or ground speed alone keeps its heights, who changes height alone
-- keeps its way over ground.
use Rattle.std.proofs.Common.{◌≡◌, ℕ, zero, suc, ◌+◌, ◌<◌, inl, inr, true, refl, ap, sym, subst, ◌∙◌, arith, ℤ, pos, ◌+ℤ◌, ◌-ℤ◌, ◌*ℤ◌, ◌≤ℤ◌, unsigned_abs}
use Rattle.std.proofs.lemmas.Int.{ints}
use Rattle.daa_fixed.proofs.Ring.{square_nonneg, mul_nonneg}
use Rattle.daa_fixed.specs.declared.Flat.{Flat}
use Rattle.daa_fixed.specs.declared.Solid.{Solid}
use Rattle.daa_fixed.specs.declared.Leg.{Leg}
use Rattle.daa_fixed.specs.Flat.{square_of}
use Rattle.daa_fixed.specs.Leg.{sum_below}
use Rattle.daa_fixed.specs.Time.{HoldsSometime}
use Rattle.daa_taumod.specs.declared.Volume.{Volume}
use Rattle.daa_taumod.specs.declared.Model.{Model}
use Rattle.daa_taumod.specs.declared.Model.TheVariants.{Tau, Tcpa, Taumod, Tep}
use Rattle.daa_taumod.specs.Volume.{place_at, height_at, IsSoon, ViolatesHorizontally, ViolatesVertically, Violates}
use Rattle.daa_config.specs.declared.candidate.Candidate.{Candidate}
use Rattle.daa_config.specs.declared.candidate.Candidate.TheVariants.{Hold, Track, GroundSpeed, VerticalSpeed, Altitude}
use Rattle.daa_config.specs.declared.config.Rates.{Rates}
use Rattle.daa_config.specs.Settings.{Settings, rates_of}
use Rattle.daa_state.specs.declared.word.Own.{Own}
use Rattle.daa_state.specs.declared.word.Traffic.{Traffic}
use Rattle.daa_legs.specs.declared.own_leg.OwnRun.{OwnRun}
use Rattle.daa_legs.specs.Motion.{track_on, ground_speed_on, vertical_speed_on, velocity_on}
use Rattle.daa_legs.specs.OwnLeg.{own_leg, place_on}
use Rattle.daa_legs.specs.Relative.{relative_for, traffic_place, traffic_velocity}
use Rattle.daa_legs.specs.Runs.{IsRunOf}
use Rattle.daa_legs.specs.Errors.{are_exact}
use Rattle.daa_legs.specs.Meeting.{relative_leg, MeetsWithin}
use Rattle.daa_legs.proofs.SharedWords.{in_height}
use Rattle.daa_legs.specs.Inside.Shared.{in_plane}
use Rattle.daa_legs.proofs.Exactness.{exact_leg}
use Rattle.daa_legs.proofs.StraightHold.{hold_run}
use Rattle.daa_legs.proofs.Stretches.{violates_moved, out_second, short_place, short_height, short_velocity}

-- ---- of flights
ups : (f g : ℕ → Solid) → ((j : ℕ) → (f j).up ≡ (g j).up) → (k : ℕ) → (sum_below f k).up ≡ (sum_below g k).up
ups f g h zero = refl
ups f g h (suc k) = λ i. ups f g h k i +ℤ h k i

flats : (f g : ℕ → Solid) → ((j : ℕ) → (f j).flat ≡ (g j).flat) → (k : ℕ) → (sum_below f k).flat ≡ (sum_below g k).flat
flats f g h zero = refl
flats f g h (suc k) = λ i. record { east = (flats f g h k i).east +ℤ (h k i).east; north = (flats f g h k i).north +ℤ (h k i).north }

module _ (own : Own) (rates : Rates) (candidate : Candidate) where
  abbrev pub KeepsHeights : Type 0
  KeepsHeights = (j : ℕ) → (velocity_on own rates candidate j).up ≡ (velocity_on own rates Hold j).up

  abbrev pub KeepsWay : Type 0
  KeepsWay = (j : ℕ) → (velocity_on own rates candidate j).flat ≡ (velocity_on own rates Hold j).flat

  height_alike : KeepsHeights → (k : ℕ) → (place_on own rates candidate k).up ≡ (place_on own rates Hold k).up
  unfolding place_on
  height_alike h k = ap (λ (z : ℤ). pos 60 *ℤ own.alt +ℤ z) (ups (velocity_on own rates candidate) (velocity_on own rates Hold) h k)

  way_alike : KeepsWay → (k : ℕ) → (place_on own rates candidate k).flat ≡ (place_on own rates Hold k).flat
  unfolding place_on
  way_alike h k = ap (λ (x : Flat). record { east = pos 36 *ℤ own.x +ℤ x.east; north = pos 36 *ℤ own.y +ℤ x.north }) (flats (velocity_on own rates candidate) (velocity_on own rates Hold) h k)

module _ (own : Own) (rates : Rates) where
  pub track-keeps : (c : ℤ) → KeepsHeights own rates (Track c)
  unfolding velocity_on vertical_speed_on
  track-keeps c j = refl

  pub speed-keeps : (c : ℤ) → KeepsHeights own rates (GroundSpeed c)
  unfolding velocity_on vertical_speed_on
  speed-keeps c j = refl

  pub climb-keeps : (c : ℤ) → KeepsWay own rates (VerticalSpeed c)
  unfolding velocity_on ground_speed_on track_on
  climb-keeps c j = refl

  pub height-keeps : (c : ℤ) → KeepsWay own rates (Altitude c)
  unfolding velocity_on ground_speed_on track_on
  height-keeps c j = refl

-- ---- of volumes: one part of a leg is left out
nothing : (n d : ℤ) → d *ℤ pos 0 +ℤ n *ℤ pos 0 ≡ pos 0
nothing n d = omega (arith, ints)

module _ (leg : Leg) (volume : Volume) (n d : ℤ) (d1 : pos 1 ≤ℤ d) where
  still : place_at (in_height leg) n d ≡ record { east = pos 0; north = pos 0 }
  still = λ i. record { east = nothing n d i; north = nothing n d i }

  heights_kept : ViolatesVertically leg volume n d → ViolatesVertically (in_height leg) volume n d
  heights_kept (inl x) = inl x
  heights_kept (inr x) = inr (record { nearing = x.nearing; soon = x.soon })

  soon_kept : (w : Model) → IsSoon w leg volume n d → IsSoon w (in_plane leg) volume n d
  soon_kept Tau s = s
  soon_kept Tcpa s = s
  soon_kept Taumod s = s
  soon_kept Tep s = s

  way_kept : ViolatesHorizontally leg volume n d → ViolatesHorizontally (in_plane leg) volume n d
  way_kept (inl x) = inl x
  way_kept (inr x) = inr (record { nearing = x.nearing; soon = soon_kept volume.model x.soon; near = x.near })

  pub violates_in_height : Violates leg volume n d → Violates (in_height leg) volume n d
  violates_in_height v = record {
    horizontal = inl (subst (λ (s : Flat). (s.east *ℤ s.east +ℤ s.north *ℤ s.north) ≤ℤ square_of (pos volume.dthr *ℤ d)) (sym still) (square_nonneg (pos volume.dthr *ℤ d)));
    vertical = heights_kept v.vertical;
  }

  pub violates_in_plane : Violates leg volume n d → Violates (in_plane leg) volume n d
  violates_in_plane v = record {
    horizontal = way_kept v.horizontal;
    vertical = inl (subst (λ (z : ℤ). pos (unsigned_abs z) ≤ℤ (pos volume.zthr *ℤ d)) (sym (nothing n d)) (mul_nonneg (pos volume.zthr) d (omega (arith, ints)) (omega (arith, ints, d1))));
  }

-- ---- of meetings
module _ (settings : Settings) (own : Own) (candidate : Candidate) (aircraft : Traffic) (volume : Volume) (m : ℕ) where
  abbrev pub present : Leg
  present = relative_for m (own_leg own (rates_of settings) Hold 0) aircraft 0

  abbrev run : OwnRun
  run = record { place = place_on own (rates_of settings) Hold 0; velocity = velocity_on own (rates_of settings) Hold 0; secs = m }

  runs : IsRunOf own (rates_of settings) Hold 0 run
  runs = hold_run own (rates_of settings) (own_leg own (rates_of settings) Hold 0) m refl

  same_heights : KeepsHeights own (rates_of settings) candidate → (k : ℕ) → in_height (relative_leg settings own candidate aircraft k) ≡ in_height (relative_leg settings own Hold aircraft k)
  unfolding relative_for
  same_heights h k = λ i. record {
    place = record { flat = record { east = pos 0; north = pos 0 }; up = height_alike own (rates_of settings) candidate h k i -ℤ (traffic_place aircraft k).up };
    velocity = record { flat = record { east = pos 0; north = pos 0 }; up = h k i -ℤ (traffic_velocity aircraft).up };
    secs = 1;
  }

  same_way : KeepsWay own (rates_of settings) candidate → (k : ℕ) → in_plane (relative_leg settings own candidate aircraft k) ≡ in_plane (relative_leg settings own Hold aircraft k)
  unfolding relative_for
  same_way h k = λ i. record {
    place = record {
      flat = record {
        east = (way_alike own (rates_of settings) candidate h k i).east -ℤ (traffic_place aircraft k).flat.east;
        north = (way_alike own (rates_of settings) candidate h k i).north -ℤ (traffic_place aircraft k).flat.north;
      };
      up = pos 0;
    };
    velocity = record {
      flat = record { east = (h k i).east -ℤ aircraft.vx; north = (h k i).north -ℤ aircraft.vy };
      up = pos 0;
    };
    secs = 1;
  }

  -- leg k of the present flight, as a second of the one long leg
  zero_more : (k : ℕ) → 0 + k ≡ k
  zero_more k = omega arith

  height_on : (k : ℕ) → k < m → (n d : ℤ) → height_at (relative_leg settings own Hold aircraft k) n d ≡ height_at present (n +ℤ pos k *ℤ d) d
  height_on k h n d = subst (λ (j : ℕ). height_at (relative_leg settings own Hold aircraft j) n d ≡ height_at present (n +ℤ pos k *ℤ d) d) (zero_more k)
      (short_height settings own Hold aircraft volume 0 run runs k h n d)

  place_along : (k : ℕ) → k < m → (n d : ℤ) → place_at (relative_leg settings own Hold aircraft k) n d ≡ place_at present (n +ℤ pos k *ℤ d) d
  place_along k h n d = subst (λ (j : ℕ). place_at (relative_leg settings own Hold aircraft j) n d ≡ place_at present (n +ℤ pos k *ℤ d) d) (zero_more k)
      (short_place settings own Hold aircraft volume 0 run runs k h n d)

  velocity_of_leg : (k : ℕ) → k < m → (relative_leg settings own Hold aircraft k).velocity ≡ present.velocity
  velocity_of_leg k h = subst (λ (j : ℕ). (relative_leg settings own Hold aircraft j).velocity ≡ present.velocity) (zero_more k) (short_velocity settings own Hold aircraft volume 0 run runs k h)

  -- a time of leg k at which the candidate violates: the present heights do then
  pub held_in_height : KeepsHeights own (rates_of settings) candidate → (k : ℕ) → k < m → (n d : ℤ) → pos 1 ≤ℤ d → Violates (relative_leg settings own candidate aircraft k) volume n d
      → Violates (in_height present) volume (n +ℤ pos k *ℤ d) d
  held_in_height h k b n d d1 v =
      let there : Violates (in_height (relative_leg settings own Hold aircraft k)) volume n d =
      subst (λ (l : Leg). Violates l volume n d) (same_heights h k) (violates_in_height (relative_leg settings own candidate aircraft k) volume n d d1 v) in
      violates_moved (in_height (relative_leg settings own Hold aircraft k)) (in_height present) volume n (n +ℤ pos k *ℤ d) d
      (still (relative_leg settings own Hold aircraft k) volume n d d1 ∙ sym (still present volume (n +ℤ pos k *ℤ d) d d1))
      (height_on k b n d)
      (ap (λ (v : Solid). record { flat = record { east = pos 0; north = pos 0 }; up = v.up }) (velocity_of_leg k b))
      there

  pub met_in_height : are_exact aircraft.bounds ≡ true → KeepsHeights own (rates_of settings) candidate → MeetsWithin settings own candidate aircraft volume m
      → HoldsSometime m (Violates (in_height present) volume)
  met_in_height exact h e =
      let x = (exact_leg settings own candidate aircraft volume exact e.leg).0 e.violates in
      record {
        num = x.num +ℤ pos e.leg *ℤ x.den;
        den = x.den;
        time = out_second m e.leg x.num x.den e.before x.time;
        holds = held_in_height h e.leg e.before x.num x.den x.time.fraction x.holds;
      }

  pub met_in_plane : are_exact aircraft.bounds ≡ true → KeepsWay own (rates_of settings) candidate → MeetsWithin settings own candidate aircraft volume m
      → HoldsSometime m (Violates (in_plane present) volume)
  met_in_plane exact h e =
      let x = (exact_leg settings own candidate aircraft volume exact e.leg).0 e.violates in
      let k : ℕ = e.leg in
      let there : Violates (in_plane (relative_leg settings own Hold aircraft k)) volume x.num x.den =
      subst (λ (l : Leg). Violates l volume x.num x.den) (same_way h k) (violates_in_plane (relative_leg settings own candidate aircraft k) volume x.num x.den x.time.fraction x.holds) in
      record {
        num = x.num +ℤ pos k *ℤ x.den;
        den = x.den;
        time = out_second m k x.num x.den e.before x.time;
        holds = violates_moved (in_plane (relative_leg settings own Hold aircraft k)) (in_plane present) volume x.num (x.num +ℤ pos k *ℤ x.den) x.den
            (place_along k e.before x.num x.den)
            (nothing x.num x.den ∙ sym (nothing (x.num +ℤ pos k *ℤ x.den) x.den))
            (ap (λ (v : Solid). record { flat = v.flat; up = pos 0 }) (velocity_of_leg k e.before))
            there;
      }
