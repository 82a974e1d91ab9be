-- The closed forms of a flight, from leg to leg.
use Rattle.std.proofs.Common.{◌≡◌, ℕ, zero, suc, ◌+◌, refl, sym, ap, ◌∙◌, arith, ℤ, pos, negsuc, ◌+ℤ◌, ◌-ℤ◌, ◌*ℤ◌, ◌≤ℤ◌, true, false, Bool}
use Rattle.std.specs.Prelude.{if◌then◌else◌, int_le}
use Rattle.std.specs.Int.{int_min, int_rem_euclid}
use Rattle.std.proofs.lemmas.Int.{ints, int_max_is, int_min_is}
use Rattle.daa_fixed.specs.Size.{IsFrom}
use Rattle.daa_fixed.specs.declared.Solid.{Solid}
use Rattle.daa_fixed.specs.Toward.{toward_of}
use Rattle.daa_heading.specs.Heading.{velocity_of}
use Rattle.daa_config.specs.declared.config.Rates.{Rates}
use Rattle.daa_config.specs.declared.candidate.Candidate.{Candidate}
use Rattle.daa_config.specs.declared.candidate.Candidate.TheVariants.{Hold, Track, GroundSpeed, VerticalSpeed, Altitude}
use Rattle.daa_config.specs.Settings.{AreRatesInRange}
use Rattle.daa_state.specs.declared.word.Own.{Own}
use Rattle.daa_state.specs.InRange.{IsOwnInRange}
use Rattle.daa_legs.specs.Turn.{right_angle, turned}
use Rattle.daa_legs.specs.Motion.{track_on, ground_speed_on, vertical_speed_on, height_after, velocity_on}
use Rattle.daa_legs.specs.OwnLeg.{place_on}
use Rattle.daa_legs.proofs.StateRanges.{own_track}
use Rattle.daa_legs.proofs.CandidateCases.{next_product, product_nonneg}
use Rattle.daa_legs.proofs.Places.{place-next}

none_toward : (x y r : ℤ) → toward_of x y (pos 0 *ℤ r) ≡ x
none_toward x y r =
    let most = int_max_is (x -ℤ pos 0 *ℤ r) (int_min (x +ℤ pos 0 *ℤ r) y) in
    let least = int_min_is (x +ℤ pos 0 *ℤ r) y in
    omega (arith, ints)

-- a seconds and one more are one step after a seconds
more_toward : (x y a r : ℤ) → pos 0 ≤ℤ a → pos 0 ≤ℤ r → toward_of x y (a +ℤ r) ≡ toward_of (toward_of x y a) y r
more_toward x y a r a0 r0 =
    let z : ℤ = toward_of x y a in
    let one = int_max_is (x -ℤ (a +ℤ r)) (int_min (x +ℤ (a +ℤ r)) y) in
    let two = int_min_is (x +ℤ (a +ℤ r)) y in
    let three = int_max_is (x -ℤ a) (int_min (x +ℤ a) y) in
    let four = int_min_is (x +ℤ a) y in
    let five = int_max_is (z -ℤ r) (int_min (z +ℤ r) y) in
    let six = int_min_is (z +ℤ r) y in
    omega (arith, ints)

pub next_toward : (x y r : ℤ) (k : ℕ) → pos 0 ≤ℤ r → toward_of x y (pos (k + 1) *ℤ r) ≡ toward_of (toward_of x y (pos k *ℤ r)) y r
next_toward x y r k r0 = ap (λ (z : ℤ). toward_of x y z) (next_product k r) ∙ more_toward x y (pos k *ℤ r) r (product_nonneg k r r0) r0

pub rem_range : (z : ℤ) → IsFrom (pos 0) (pos 359) (int_rem_euclid z (pos 360))
rem_range (pos a) = record { least = omega (arith, ints); most = omega (arith, ints) }
rem_range (negsuc a) = record { least = omega (arith, ints); most = omega (arith, ints) }

pub rem_small : (z : ℤ) → IsFrom (pos 0) (pos 359) z → int_rem_euclid z (pos 360) ≡ z
rem_small (pos a) h = omega (arith, ints, h.most)
rem_small (negsuc a) h = absurd (omega (arith, ints, h.least))

either : (b : Bool) (x y z : ℤ) → x ≡ z → y ≡ z → (if b then x else y) ≡ z
either true x y z h k = h
either false x y z h k = k

turned-none : (track c r : ℤ) → IsFrom (pos 0) (pos 359) track → turned track c (pos 0 *ℤ r) ≡ track
unfolding turned
turned-none track c r h =
    let right : IsFrom (pos 0) (pos 359) (right_angle track c) = rem_range (c -ℤ track) in
    either (int_le (right_angle track c) (pos 180)) _ _ track
    (ap (λ (z : ℤ). int_rem_euclid z (pos 360)) (plain (right_angle track c) right) ∙ rem_small track h)
    (ap (λ (z : ℤ). int_rem_euclid z (pos 360)) (mirrored (right_angle track c) right) ∙ rem_small track h)
  where
    plain : (a : ℤ) → IsFrom (pos 0) (pos 359) a → track +ℤ int_min (pos 0 *ℤ r) a ≡ track
    plain a k = let least = int_min_is (pos 0 *ℤ r) a in omega (arith, ints, k.least)

    mirrored : (a : ℤ) → IsFrom (pos 0) (pos 359) a → track -ℤ int_min (pos 0 *ℤ r) (pos 360 -ℤ a) ≡ track
    mirrored a k = let least = int_min_is (pos 0 *ℤ r) (pos 360 -ℤ a) in omega (arith, ints, k.most)

module _ (own : Own) (rates : Rates) where
  pub ground_speed-first : (candidate : Candidate) → ground_speed_on own rates candidate 0 ≡ own.gs
  unfolding ground_speed_on
  ground_speed-first Hold = refl
  ground_speed-first (Track c) = refl
  ground_speed-first (GroundSpeed g) = none_toward own.gs g rates.gs
  ground_speed-first (VerticalSpeed w) = refl
  ground_speed-first (Altitude a) = refl

  pub vertical_speed-first : (w : ℤ) → vertical_speed_on own rates (VerticalSpeed w) 0 ≡ own.vs
  unfolding vertical_speed_on
  vertical_speed-first w = none_toward own.vs w rates.vs

  pub ground_speed-next : (g : ℤ) (k : ℕ) → AreRatesInRange rates → ground_speed_on own rates (GroundSpeed g) (k + 1) ≡ toward_of (ground_speed_on own rates (GroundSpeed g) k) g rates.gs
  unfolding ground_speed_on
  ground_speed-next g k r = next_toward own.gs g rates.gs k (omega (arith, ints, r.gs.least))

  pub vertical_speed-next : (w : ℤ) (k : ℕ) → AreRatesInRange rates → vertical_speed_on own rates (VerticalSpeed w) (k + 1) ≡ toward_of (vertical_speed_on own rates (VerticalSpeed w) k) w rates.vs
  unfolding vertical_speed_on
  vertical_speed-next w k r = next_toward own.vs w rates.vs k (omega (arith, ints, r.vs.least))

  -- on the way to an altitude the height of the flight is the definition's
  place-height : (a : ℤ) (k : ℕ) → (place_on own rates (Altitude a) k).up ≡ height_after own rates a k
  unfolding place_on velocity_on vertical_speed_on
  place-height a zero = plain (pos 60 *ℤ own.alt) ∙ sym (none_toward (pos 60 *ℤ own.alt) (pos 60 *ℤ a) rates.alt)
    where
      plain : (x : ℤ) → x +ℤ pos 0 ≡ x
      plain x = omega (arith, ints)
  place-height a (suc k) =
      let one : suc k ≡ k + 1 = omega arith in
      ap (λ (n : ℕ). (place_on own rates (Altitude a) n).up) one
      ∙ sym (ap (λ (x : Solid). x.up) (place-next own rates (Altitude a) k))
      ∙ ap (λ (z : ℤ). z +ℤ (height_after own rates a (k + 1) -ℤ height_after own rates a k)) (place-height a k)
      ∙ back (height_after own rates a k) (height_after own rates a (k + 1))
      ∙ ap (λ (n : ℕ). height_after own rates a n) (sym one)
    where
      back : (x y : ℤ) → x +ℤ (y -ℤ x) ≡ y
      back x y = omega (arith, ints)

  pub height-next : (a : ℤ) (k : ℕ) → AreRatesInRange rates → (place_on own rates (Altitude a) (k + 1)).up ≡ toward_of (place_on own rates (Altitude a) k).up (pos 60 *ℤ a) rates.alt
  height-next a k r =
      place-height a (k + 1)
      ∙ next_toward (pos 60 *ℤ own.alt) (pos 60 *ℤ a) rates.alt k (omega (arith, ints, r.alt.least))
      ∙ ap (λ (z : ℤ). toward_of z (pos 60 *ℤ a) rates.alt) (sym (place-height a k))

  pub hold-velocity : (k : ℕ) → velocity_on own rates Hold k ≡ record { flat = velocity_of own.gs own.trk; up = own.vs }
  unfolding velocity_on ground_speed_on track_on vertical_speed_on
  hold-velocity k = refl

  pub track-first : (candidate : Candidate) → IsOwnInRange own → track_on own rates candidate 0 ≡ own.trk
  unfolding track_on
  track-first Hold o = refl
  track-first (Track c) o = turned-none own.trk c rates.turn (own_track o)
  track-first (GroundSpeed g) o = refl
  track-first (VerticalSpeed w) o = refl
  track-first (Altitude a) o = refl
