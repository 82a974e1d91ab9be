-- Where a flight is, leg by leg, and how far that can be.
use Rattle.std.proofs.Common.{◌≡◌, ℕ, zero, suc, ◌+◌, ◌*◌, ◌<◌, ◌≤◌, sym, ◌∙◌, arith, ℤ, pos, neg_ℤ, ◌+ℤ◌, ◌*ℤ◌, unsigned_abs, add-one}
use Rattle.std.proofs.lemmas.Int.{ints}
use Rattle.daa_fixed.specs.Size.{IsFrom}
use Rattle.daa_fixed.specs.declared.Solid.{Solid}
use Rattle.daa_fixed.specs.Leg.{plus, sum_below, IsSolidBelow}
use Rattle.daa_heading.proofs.Sines.{east-within, north-within}
use Rattle.daa_config.specs.declared.config.Rates.{Rates}
use Rattle.daa_config.specs.declared.candidate.Candidate.{Candidate}
use Rattle.daa_config.specs.Settings.{AreRatesInRange, IsCandidateInRange}
use Rattle.daa_state.specs.declared.word.Own.{Own}
use Rattle.daa_state.specs.InRange.{IsOwnInRange}
use Rattle.daa_legs.specs.Motion.{track_on, ground_speed_on, velocity_on}
use Rattle.daa_legs.specs.OwnLeg.{place_on}
use Rattle.daa_legs.proofs.StateRanges.{own_x, own_y, own_altitude}
use Rattle.daa_legs.proofs.CandidateCases.{ground_speed_on-in_range, vertical_speed_on-within}

-- each axis is at most m in size
pub record IsSolidWithin (m : ℕ) (x : Solid) : Type 0 where
  pub east : unsigned_abs x.flat.east ≤ m
  pub north : unsigned_abs x.flat.north ≤ m
  pub up : unsigned_abs x.up ≤ m

pub sum_below-within : (f : ℕ → Solid) → ((j : ℕ) → IsSolidWithin 10000 (f j)) → (k : ℕ) → IsSolidWithin (k * 10000) (sum_below f k)
sum_below-within f h zero = record { east = omega arith; north = omega arith; up = omega arith }
sum_below-within f h (suc k) =
    let s = sum_below-within f h k in
    let t = h k in
    record {
      east = add (sum_below f k).flat.east (f k).flat.east k s.east t.east;
      north = add (sum_below f k).flat.north (f k).flat.north k s.north t.north;
      up = add (sum_below f k).up (f k).up k s.up t.up;
    }
  where
    add : (x y : ℤ) (k : ℕ) → unsigned_abs x ≤ k * 10000 → unsigned_abs y ≤ 10000 → unsigned_abs (x +ℤ y) ≤ suc k * 10000
    add x y k h l = omega (arith, ints)

module _ (own : Own) (rates : Rates) (candidate : Candidate) where
  pub place-start : (x : Solid) → x.flat.east ≡ pos 36 *ℤ own.x → x.flat.north ≡ pos 36 *ℤ own.y → x.up ≡ pos 60 *ℤ own.alt → x ≡ place_on own rates candidate 0
  unfolding place_on
  place-start x e n u = λ i. record {
    flat = record { east = (e ∙ sym (none (pos 36 *ℤ own.x))) i; north = (n ∙ sym (none (pos 36 *ℤ own.y))) i };
    up = (u ∙ sym (none (pos 60 *ℤ own.alt))) i;
  }
    where
      none : (z : ℤ) → z +ℤ pos 0 ≡ z
      none z = omega (arith, ints)

  pub place-next : (k : ℕ) → plus (place_on own rates candidate k) (velocity_on own rates candidate k) ≡ place_on own rates candidate (k + 1)
  unfolding place_on
  place-next k = rw add-one (λ i. record {
    flat = record {
      east = assoc (pos 36 *ℤ own.x) (sum_below (velocity_on own rates candidate) k).flat.east (velocity_on own rates candidate k).flat.east i;
      north = assoc (pos 36 *ℤ own.y) (sum_below (velocity_on own rates candidate) k).flat.north (velocity_on own rates candidate k).flat.north i;
    };
    up = assoc (pos 60 *ℤ own.alt) (sum_below (velocity_on own rates candidate) k).up (velocity_on own rates candidate k).up i;
  })
    where
      assoc : (x y z : ℤ) → (x +ℤ y) +ℤ z ≡ x +ℤ (y +ℤ z)
      assoc x y z = omega (arith, ints)

  module _ (o : IsOwnInRange own) (r : AreRatesInRange rates) (h : IsCandidateInRange candidate) where
    pub velocity_on-within : (k : ℕ) → IsSolidWithin 10000 (velocity_on own rates candidate k)
    unfolding velocity_on
    velocity_on-within k =
        let s = ground_speed_on-in_range own rates o r candidate k h in
        let e = east-within (ground_speed_on own rates candidate k) (track_on own rates candidate k) in
        let n = north-within (ground_speed_on own rates candidate k) (track_on own rates candidate k) in
        let u = vertical_speed_on-within own rates o r candidate k h in
        record {
          east = omega (arith, ints, s.least, s.most, e.size);
          north = omega (arith, ints, s.least, s.most, n.size);
          up = u.size;
        }

    pub velocity_on-below : (k : ℕ) → IsSolidBelow 20000 (velocity_on own rates candidate k)
    velocity_on-below k = let w = velocity_on-within k in record { east = omega (arith, w.east); north = omega (arith, w.north); up = omega (arith, w.up) }

    pub place_on-below : (k : ℕ) → k ≤ 180 → IsSolidBelow 20000000 (place_on own rates candidate k)
    unfolding place_on
    place_on-below k short =
        let w = sum_below-within (velocity_on own rates candidate) velocity_on-within k in
        record {
          east = far own.x (sum_below (velocity_on own rates candidate) k).flat.east k short (own_x o) w.east;
          north = far own.y (sum_below (velocity_on own rates candidate) k).flat.north k short (own_y o) w.north;
          up = high own.alt (sum_below (velocity_on own rates candidate) k).up k short (own_altitude o) w.up;
        }
      where
        far : (x s : ℤ) (k : ℕ) → k ≤ 180 → IsFrom (neg_ℤ (pos 200000)) (pos 200000) x → unsigned_abs s ≤ k * 10000 → unsigned_abs (pos 36 *ℤ x +ℤ s) < 20000000
        far x s k h f w = omega (arith, ints, f.least, f.most)

        high : (x s : ℤ) (k : ℕ) → k ≤ 180 → IsFrom (neg_ℤ (pos 2000)) (pos 60000) x → unsigned_abs s ≤ k * 10000 → unsigned_abs (pos 60 *ℤ x +ℤ s) < 20000000
        high x s k h f w = omega (arith, ints, f.least, f.most)
