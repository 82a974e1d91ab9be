-- Where a delayed flight is, leg by leg.
use Rattle.std.proofs.Common.{◌≡◌, ℕ, zero, suc, ◌+◌, ◌-◌, ◌<◌, ◌≤◌, ◌*◌, Bool, refl, ap, sym, subst, ◌∙◌, ⊎_elim, arith, ℤ, pos, neg_ℤ, ◌+ℤ◌, ◌-ℤ◌, ◌*ℤ◌, ◌≤ℤ◌, unsigned_abs, add-one}
use Rattle.std.specs.Prelude.{if◌then◌else◌}
use Rattle.std.specs.Int.{int_min}
use Rattle.std.proofs.lemmas.Bool.{lt-ltb, le-ltb, cases_lt}
use Rattle.std.proofs.lemmas.Int.{ints, int_max_is, int_min_is}
use Rattle.daa_fixed.specs.Size.{IsFrom}
use Rattle.daa_fixed.specs.declared.Solid.{Solid}
use Rattle.daa_fixed.specs.Leg.{plus, sum_below, IsSolidBelow}
use Rattle.daa_fixed.specs.Toward.{toward_of}
use Rattle.daa_fixed.proofs.Towards.{toward_of-step}
use Rattle.daa_config.specs.declared.config.Rates.{Rates}
use Rattle.daa_config.specs.declared.candidate.Candidate.{Candidate}
use Rattle.daa_config.specs.declared.candidate.Candidate.TheVariants.{Hold, Track, GroundSpeed, VerticalSpeed, Altitude}
use Rattle.daa_config.specs.Settings.{AreRatesInRange, IsCandidateInRange}
use Rattle.daa_state.specs.declared.word.Own.{Own}
use Rattle.daa_state.specs.InRange.{IsOwnInRange}
use Rattle.daa_legs.specs.declared.own_leg.OwnLeg.{OwnLeg}
use Rattle.daa_legs.specs.Branch.{lead_of, FliesAs}
use Rattle.daa_legs.specs.Motion.{vertical_speed_on, velocity_on}
use Rattle.daa_legs.specs.OwnLeg.{own_place, place_on, own_leg, IsOwnLegInRange}
use Rattle.daa_legs.proofs.StateRanges.{own_x, own_y, own_altitude}
use Rattle.daa_legs.proofs.CandidateCases.{next_product, product_nonneg, vertical_speed_on-within}
use Rattle.daa_legs.proofs.ClosedForms.{next_toward, hold-velocity}
use Rattle.daa_legs.proofs.Places.{IsSolidWithin, place-next, sum_below-within, velocity_on-within}
use Rattle.daa_last.specs.Delayed.{height_since, vertical_speed_since, velocity_since, velocity_delayed, place_delayed, leg_delayed}
use Rattle.daa_last.specs.Inside.Rests.{velocity_from, IsMovedAlone}
use Rattle.daa_last.specs.Inside.Sides.{moved}

none_toward : (x y r : ℤ) → toward_of x y (pos 0 *ℤ r) ≡ x
none_toward x y r =
    let most = int_max_is (x -ℤ pos 0 *ℤ r) (int_min (x +ℤ pos 0 *ℤ r) y) in
    let least = int_min_is (x +ℤ pos 0 *ℤ r) y in
    omega (arith, ints)

-- sums of the same velocities
same_sum : (f g : ℕ → Solid) (n : ℕ) → ((j : ℕ) → j < n → f j ≡ g j) → sum_below f n ≡ sum_below g n
same_sum f g zero h = refl
same_sum f g (suc n) h =
    let before = same_sum f g n (λ j lt. h j (omega (arith, lt))) in
    let last = h n (omega arith) in
    λ i. plus (before i) (last i)

module _ (own : Own) (rates : Rates) (m : ℕ) (candidate : Candidate) where
  -- ---- before leg m and from it on
  pub held : (k : ℕ) → k < m → velocity_delayed own rates m candidate k ≡ velocity_on own rates Hold k
  unfolding velocity_delayed
  held k lt = ap (λ b. if b then velocity_on own rates Hold k else velocity_since own rates m candidate (k - m)) (lt-ltb k m lt)

  pub begun : (k : ℕ) → m ≤ k → velocity_delayed own rates m candidate k ≡ velocity_since own rates m candidate (k - m)
  unfolding velocity_delayed
  begun k le = ap (λ b. if b then velocity_on own rates Hold k else velocity_since own rates m candidate (k - m)) (le-ltb k m le)

  pub held_place : (k : ℕ) → k ≤ m → place_delayed own rates m candidate k ≡ place_on own rates Hold k
  unfolding place_delayed place_on
  held_place k le = ap (λ (s : Solid). plus (own_place own) s) (same_sum (velocity_delayed own rates m candidate) (velocity_on own rates Hold) k (λ j lt. held j (omega (arith, lt, le))))

  pub held_leg : (k : ℕ) → k < m → leg_delayed own rates m candidate k ≡ own_leg own rates Hold k
  held_leg k lt = let p = held_place k (omega (arith, lt)) in let v = held k lt in λ i. record { place = p i; velocity = v i }

  pub next_place : (k : ℕ) → plus (place_delayed own rates m candidate k) (velocity_delayed own rates m candidate k) ≡ place_delayed own rates m candidate (k + 1)
  unfolding place_delayed
  next_place k = rw add-one (λ i. record {
    flat = record {
      east = assoc (pos 36 *ℤ own.x) (sum_below (velocity_delayed own rates m candidate) k).flat.east (velocity_delayed own rates m candidate k).flat.east i;
      north = assoc (pos 36 *ℤ own.y) (sum_below (velocity_delayed own rates m candidate) k).flat.north (velocity_delayed own rates m candidate k).flat.north i;
    };
    up = assoc (pos 60 *ℤ own.alt) (sum_below (velocity_delayed own rates m candidate) k).up (velocity_delayed own rates m candidate k).up i;
  })
    where
      assoc : (x y z : ℤ) → (x +ℤ y) +ℤ z ≡ x +ℤ (y +ℤ z)
      assoc x y z = omega (arith, ints)

-- ---- on the way to an altitude the height is the definition's
module _ (own : Own) (rates : Rates) (m : ℕ) (a : ℤ) where
  rises : (j : ℕ) → (velocity_since own rates m (Altitude a) j).up ≡ height_since own rates m a (j + 1) -ℤ height_since own rates m a j
  unfolding velocity_since vertical_speed_since
  rises j = refl

  height_from : (j : ℕ) → (place_delayed own rates m (Altitude a) (m + j)).up ≡ height_since own rates m a j
  height_from zero =
      let none : m + 0 ≡ m = omega arith in
      ap (λ (k : ℕ). (place_delayed own rates m (Altitude a) k).up) none
      ∙ ap (λ (x : Solid). x.up) (held_place own rates m (Altitude a) m (omega arith))
      ∙ sym (none_toward (place_on own rates Hold m).up (pos 60 *ℤ a) rates.alt)
  height_from (suc j) =
      let one : m + suc j ≡ m + j + 1 = omega arith in
      let back : m + j - m ≡ j = omega arith in
      let speed : (velocity_delayed own rates m (Altitude a) (m + j)).up ≡ height_since own rates m a (j + 1) -ℤ height_since own rates m a j =
      ap (λ (x : Solid). x.up) (begun own rates m (Altitude a) (m + j) (omega arith))
      ∙ ap (λ (i : ℕ). (velocity_since own rates m (Altitude a) i).up) back
      ∙ rises j in
      let so_far : (place_delayed own rates m (Altitude a) (m + j)).up ≡ height_since own rates m a j = height_from j in
      let next : j + 1 ≡ suc j = omega arith in
      ap (λ (k : ℕ). (place_delayed own rates m (Altitude a) k).up) one
      ∙ sym (ap (λ (x : Solid). x.up) (next_place own rates m (Altitude a) (m + j)))
      ∙ (λ i. so_far i +ℤ speed i)
      ∙ there (height_since own rates m a j) (height_since own rates m a (j + 1))
      ∙ ap (λ (i : ℕ). height_since own rates m a i) next
    where
      there : (x y : ℤ) → x +ℤ (y -ℤ x) ≡ y
      there x y = omega (arith, ints)

  pub height_at : (k : ℕ) → m ≤ k → (place_delayed own rates m (Altitude a) k).up ≡ height_since own rates m a (k - m)
  height_at k le =
      let whole : k ≡ m + (k - m) = omega (arith, le) in
      ap (λ (i : ℕ). (place_delayed own rates m (Altitude a) i).up) whole ∙ height_from (k - m)

  -- the next second rises from where it is
  pub rises_from : (k : ℕ) → m ≤ k → AreRatesInRange rates
      → toward_of (place_delayed own rates m (Altitude a) k).up (pos 60 *ℤ a) rates.alt -ℤ (place_delayed own rates m (Altitude a) k).up
      ≡ height_since own rates m a (k - m + 1) -ℤ height_since own rates m a (k - m)
  rises_from k le r =
      let at = height_at k le in
      let next = next_toward (place_on own rates Hold m).up (pos 60 *ℤ a) rates.alt (k - m) (omega (arith, ints, r.alt.least)) in
      (λ i. toward_of (at i) (pos 60 *ℤ a) rates.alt -ℤ at i)
      ∙ ap (λ (z : ℤ). z -ℤ height_since own rates m a (k - m)) (sym next)

  pub rise_within : (j : ℕ) → AreRatesInRange rates → unsigned_abs (height_since own rates m a (j + 1) -ℤ height_since own rates m a j) ≤ 10000
  rise_within j r =
      let positive : pos 0 ≤ℤ rates.alt = omega (arith, ints, r.alt.least) in
      let s = toward_of-step (place_on own rates Hold m).up (pos 60 *ℤ a) (pos j *ℤ rates.alt) rates.alt (product_nonneg j rates.alt positive) positive in
      let t = subst (λ (z : ℤ). IsFrom (neg_ℤ rates.alt) rates.alt (toward_of (place_on own rates Hold m).up (pos 60 *ℤ a) z -ℤ height_since own rates m a j)) (sym (next_product j rates.alt)) s in
      omega (arith, ints, t.least, t.most, r.alt.most)

module _ (own : Own) (rates : Rates) (m : ℕ) where
  -- what the next second's velocity is told from
  pub told : (candidate : Candidate) (k : ℕ) → m ≤ k → AreRatesInRange rates
      → velocity_from rates candidate (place_delayed own rates m candidate k) (velocity_on own rates candidate (k - m)) ≡ velocity_delayed own rates m candidate k
  unfolding velocity_from velocity_since vertical_speed_since velocity_on
  told Hold k le r = sym (begun own rates m Hold k le)
  told (Track c) k le r = sym (begun own rates m (Track c) k le)
  told (GroundSpeed g) k le r = sym (begun own rates m (GroundSpeed g) k le)
  told (VerticalSpeed w) k le r = sym (begun own rates m (VerticalSpeed w) k le)
  told (Altitude a) k le r = let up = rises_from own rates m a k le r in
      (λ i. record { flat = (velocity_on own rates (Altitude a) (k - m)).flat; up = up i }) ∙ sym (begun own rates m (Altitude a) k le)

  -- ---- how large
  climbs_within : IsOwnInRange own → AreRatesInRange rates → (candidate : Candidate) → IsCandidateInRange candidate → (j : ℕ) → unsigned_abs (vertical_speed_since own rates m candidate j) ≤ 10000
  unfolding vertical_speed_since
  climbs_within o r Hold h j = (vertical_speed_on-within own rates o r Hold j h).size
  climbs_within o r (Track c) h j = (vertical_speed_on-within own rates o r (Track c) j h).size
  climbs_within o r (GroundSpeed g) h j = (vertical_speed_on-within own rates o r (GroundSpeed g) j h).size
  climbs_within o r (VerticalSpeed w) h j = (vertical_speed_on-within own rates o r (VerticalSpeed w) j h).size
  climbs_within o r (Altitude a) h j = rise_within own rates m a j r

  module _ (o : IsOwnInRange own) (r : AreRatesInRange rates) (candidate : Candidate) (h : IsCandidateInRange candidate) where
    since_within : (j : ℕ) → IsSolidWithin 10000 (velocity_since own rates m candidate j)
    unfolding velocity_since
    since_within j = let w = velocity_on-within own rates candidate o r h j in record { east = w.east; north = w.north; up = climbs_within o r candidate h j }

    delayed_within : (k : ℕ) → IsSolidWithin 10000 (velocity_delayed own rates m candidate k)
    delayed_within k = ⊎_elim
        (λ lt. subst (IsSolidWithin 10000) (sym (held own rates m candidate k lt)) (velocity_on-within own rates Hold o r tt k))
        (λ le. subst (IsSolidWithin 10000) (sym (begun own rates m candidate k le)) (since_within (k - m)))
        (cases_lt k m)

    pub delayed_place-below : (k : ℕ) → k ≤ 180 → IsSolidBelow 20000000 (place_delayed own rates m candidate k)
    unfolding place_delayed
    delayed_place-below k short =
        let w = sum_below-within (velocity_delayed own rates m candidate) delayed_within k in
        record {
          east = far own.x (sum_below (velocity_delayed own rates m candidate) k).flat.east k short (own_x o) w.east;
          north = far own.y (sum_below (velocity_delayed own rates m candidate) k).flat.north k short (own_y o) w.north;
          up = high own.alt (sum_below (velocity_delayed own rates m candidate) k).up k short (own_altitude o) w.up;
        }
      where
        far : (x s : ℤ) (k : ℕ) → k ≤ 180 → IsFrom (neg_ℤ (pos 200000)) (pos 200000) x → unsigned_abs s ≤ k * 10000 → unsigned_abs (pos 36 *ℤ x +ℤ s) < 20000000
        far x s k h f w = omega (arith, ints, f.least, f.most)

        high : (x s : ℤ) (k : ℕ) → k ≤ 180 → IsFrom (neg_ℤ (pos 2000)) (pos 60000) x → unsigned_abs s ≤ k * 10000 → unsigned_abs (pos 60 *ℤ x +ℤ s) < 20000000
        high x s k h f w = omega (arith, ints, f.least, f.most)

    pub delayed-in_range : (k : ℕ) → k ≤ 180 → IsOwnLegInRange (leg_delayed own rates m candidate k)
    delayed-in_range k short = let w = delayed_within k in record {
      place = delayed_place-below k short;
      velocity = record { east = omega (arith, w.east); north = omega (arith, w.north); up = omega (arith, w.up) };
    }

-- ---- begun later, every flight but one to an altitude is moved alone
module _ (own : Own) (rates : Rates) (m : ℕ) where
  pub moved_alone : (candidate : Candidate) → ((a : ℤ) → candidate ≡ Altitude a → ⊥) → IsMovedAlone own rates m candidate
  unfolding velocity_since vertical_speed_since velocity_on vertical_speed_on
  moved_alone Hold h j = refl
  moved_alone (Track c) h j = refl
  moved_alone (GroundSpeed g) h j = refl
  moved_alone (VerticalSpeed w) h j = refl
  moved_alone (Altitude a) h j = absurd (h a refl)

  pub lead_moved_alone : (candidate : Candidate) (upper : Bool) → ((a : ℤ) → candidate ≡ Altitude a → ⊥) → IsMovedAlone own rates m (lead_of own candidate upper)
  unfolding velocity_since vertical_speed_since velocity_on vertical_speed_on lead_of
  lead_moved_alone Hold upper h j = refl
  lead_moved_alone (Track c) upper h j = refl
  lead_moved_alone (GroundSpeed g) upper h j = refl
  lead_moved_alone (VerticalSpeed w) upper h j = refl
  lead_moved_alone (Altitude a) upper h j = absurd (h a refl)

module _ (own : Own) (rates : Rates) (m : ℕ) (candidate : Candidate) (alone : IsMovedAlone own rates m candidate) where
  pub moved_velocity : (j : ℕ) → velocity_delayed own rates m candidate (m + j) ≡ velocity_on own rates candidate j
  moved_velocity j =
      let back : m + j - m ≡ j = omega arith in
      begun own rates m candidate (m + j) (omega arith) ∙ ap (λ (i : ℕ). velocity_since own rates m candidate i) back ∙ alone j

  begins_here : place_on own rates candidate 0 ≡ own_place own
  unfolding place_on
  begins_here = λ i. record {
    flat = record { east = none (pos 36 *ℤ own.x) i; north = none (pos 36 *ℤ own.y) i };
    up = none (pos 60 *ℤ own.alt) i;
  }
    where
      none : (x : ℤ) → x +ℤ pos 0 ≡ x
      none x = omega (arith, ints)

  pub moved_place : (j : ℕ) → place_delayed own rates m candidate (m + j) ≡ moved (place_on own rates candidate j) (place_on own rates Hold m) (own_place own)
  unfolding moved
  moved_place zero =
      let none : m + 0 ≡ m = omega arith in
      let start : Solid = place_on own rates Hold m in
      ap (place_delayed own rates m candidate) none
      ∙ held_place own rates m candidate m (omega arith)
      ∙ (λ i. record {
        flat = record { east = away (pos 36 *ℤ own.x) start.flat.east i; north = away (pos 36 *ℤ own.y) start.flat.north i };
        up = away (pos 60 *ℤ own.alt) start.up i;
      })
      ∙ ap (λ (x : Solid). moved x start (own_place own)) (sym begins_here)
    where
      away : (x s : ℤ) → s ≡ (x +ℤ s) -ℤ x
      away x s = omega (arith, ints)
  moved_place (suc j) =
      let one : m + suc j ≡ m + j + 1 = omega arith in
      let next : j + 1 ≡ suc j = omega arith in
      let start : Solid = place_on own rates Hold m in
      let here : Solid = own_place own in
      let p : Solid = place_on own rates candidate j in
      let v : Solid = velocity_on own rates candidate j in
      let before = moved_place j in
      let speed = moved_velocity j in
      ap (place_delayed own rates m candidate) one
      ∙ sym (next_place own rates m candidate (m + j))
      ∙ (λ i. plus (before i) (speed i))
      ∙ (λ i. record {
        flat = record {
          east = later p.flat.east v.flat.east start.flat.east here.flat.east i;
          north = later p.flat.north v.flat.north start.flat.north here.flat.north i;
        };
        up = later p.up v.up start.up here.up i;
      })
      ∙ ap (λ (x : Solid). moved x start here) (place-next own rates candidate j)
      ∙ ap (λ (n : ℕ). moved (place_on own rates candidate n) start here) next
    where
      later : (p v s h : ℤ) → ((p +ℤ s) -ℤ h) +ℤ v ≡ ((p +ℤ v) +ℤ s) -ℤ h
      later p v s h = omega (arith, ints)

  -- its leg, from the leg of the flight that is begun now
  pub moved_leg_is : (j : ℕ) (leg : OwnLeg) (start here : Solid) → leg ≡ own_leg own rates candidate j → start ≡ place_on own rates Hold m → here ≡ own_place own
      → record { place = moved leg.place start here; velocity = leg.velocity } ≡ leg_delayed own rates m candidate (m + j)
  moved_leg_is j leg start here l s h =
      let p = moved_place j in
      let v = moved_velocity j in
      (λ i. record { place = moved (l i).place (s i) (h i); velocity = (l i).velocity })
      ∙ (λ i. record { place = sym p i; velocity = sym v i })

  pub begins_own : (leg : OwnLeg) → leg ≡ own_leg own rates candidate 0 → leg.place ≡ own_place own
  begins_own leg l = ap (λ (x : OwnLeg). x.place) l ∙ begins_here

-- ---- where a candidate flies as another
module _ (own : Own) (rates : Rates) (m : ℕ) (candidate lead : Candidate) (x : IsMovedAlone own rates m candidate) (y : IsMovedAlone own rates m lead)
    (n : ℕ) (alike : FliesAs own rates candidate lead n) where
  velocity_alike : (k : ℕ) → k < m + n → velocity_delayed own rates m candidate k ≡ velocity_delayed own rates m lead k
  velocity_alike k lt = ⊎_elim
      (λ before. held own rates m candidate k before ∙ sym (held own rates m lead k before))
      (λ le. begun own rates m candidate k le ∙ x (k - m) ∙ alike.same (k - m) (omega (arith, le, lt)) ∙ sym (y (k - m)) ∙ sym (begun own rates m lead k le))
      (cases_lt k m)

  pub delayed_place_alike : (k : ℕ) → k ≤ m + n → place_delayed own rates m candidate k ≡ place_delayed own rates m lead k
  unfolding place_delayed
  delayed_place_alike k le = ap (λ (s : Solid). plus (own_place own) s)
      (same_sum (velocity_delayed own rates m candidate) (velocity_delayed own rates m lead) k (λ j lt. velocity_alike j (omega (arith, lt, le))))

  pub delayed_leg_alike : (k : ℕ) → k < m + n → leg_delayed own rates m candidate k ≡ leg_delayed own rates m lead k
  delayed_leg_alike k lt = let p = delayed_place_alike k (omega (arith, lt)) in let v = velocity_alike k lt in λ i. record { place = p i; velocity = v i }

-- ---- delayed by 0 seconds
module _ (own : Own) (rates : Rates) where
  pub at_once : (z : ℤ) → z +ℤ pos 0 ≡ z
  at_once z = omega (arith, ints)

  begun_at_once : (candidate : Candidate) (j : ℕ) → velocity_since own rates 0 candidate j ≡ velocity_on own rates candidate j
  unfolding velocity_since vertical_speed_since velocity_on vertical_speed_on place_on
  begun_at_once Hold j = refl
  begun_at_once (Track c) j = refl
  begun_at_once (GroundSpeed g) j = refl
  begun_at_once (VerticalSpeed w) j = refl
  begun_at_once (Altitude a) j =
      let now = at_once (pos 60 *ℤ own.alt) in
      λ i. record {
        flat = (velocity_on own rates (Altitude a) j).flat;
        up = toward_of (now i) (pos 60 *ℤ a) (pos (j + 1) *ℤ rates.alt) -ℤ toward_of (now i) (pos 60 *ℤ a) (pos j *ℤ rates.alt);
      }

  undelayed_velocity : (candidate : Candidate) (k : ℕ) → velocity_delayed own rates 0 candidate k ≡ velocity_on own rates candidate k
  undelayed_velocity candidate k =
      let whole : k - 0 ≡ k = omega arith in
      begun own rates 0 candidate k (omega arith) ∙ ap (λ (i : ℕ). velocity_since own rates 0 candidate i) whole ∙ begun_at_once candidate k

  pub undelayed : (candidate : Candidate) (k : ℕ) → leg_delayed own rates 0 candidate k ≡ own_leg own rates candidate k
  unfolding place_delayed place_on
  undelayed candidate k =
      let s = same_sum (velocity_delayed own rates 0 candidate) (velocity_on own rates candidate) k (λ j lt. undelayed_velocity candidate j) in
      let v = undelayed_velocity candidate k in
      λ i. record { place = plus (own_place own) (s i); velocity = v i }

  -- Hold's height
  pub held_height : (m : ℕ) → (place_on own rates Hold m).up ≡ pos 60 *ℤ own.alt +ℤ pos m *ℤ own.vs
  unfolding place_on
  held_height m = ap (λ (z : ℤ). pos 60 *ℤ own.alt +ℤ z) (held_climb m)
    where
      held_climb : (n : ℕ) → (sum_below (velocity_on own rates Hold) n).up ≡ pos n *ℤ own.vs
      held_climb zero = none own.vs
        where
          none : (v : ℤ) → pos 0 ≡ pos 0 *ℤ v
          none v = omega (arith, ints)
      held_climb (suc n) =
          let before = held_climb n in
          let speed : (velocity_on own rates Hold n).up ≡ own.vs = ap (λ (x : Solid). x.up) (hold-velocity own rates n) in
          (λ i. before i +ℤ speed i) ∙ more n own.vs
        where
          more : (n : ℕ) (v : ℤ) → pos n *ℤ v +ℤ v ≡ pos (suc n) *ℤ v
          more n v = omega (arith, ints)
