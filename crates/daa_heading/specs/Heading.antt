-- Sine and cosine of whole degrees, clockwise from north, and the velocity along a heading. The table of sines, scaled by
-- 10000, is this project's own; the other quarters follow from it by symmetry.
use Rattle.std.specs.Prelude.{ℕ, ℤ, pos, neg_ℤ, ◌+ℤ◌, ◌-ℤ◌, ◌*ℤ◌, ◌≤ℤ◌, List, [], ◌∷◌, slice_index, if◌then◌else◌, int_le, int_div, unsigned_abs}
use Rattle.std.specs.Int.{int_rem_euclid}
use Rattle.daa_fixed.specs.declared.Flat.{Flat}

-- sines of 0 to 90 degrees, ten in a row
unfoldable pub sines : List ℕ
sines =
    (0 ∷ 175 ∷ 349 ∷ 523 ∷ 698 ∷ 872 ∷ 1045 ∷ 1219 ∷ 1392 ∷ 1564
    ∷ 1736 ∷ 1908 ∷ 2079 ∷ 2250 ∷ 2419 ∷ 2588 ∷ 2756 ∷ 2924 ∷ 3090 ∷ 3256
    ∷ 3420 ∷ 3584 ∷ 3746 ∷ 3907 ∷ 4067 ∷ 4226 ∷ 4384 ∷ 4540 ∷ 4695 ∷ 4848
    ∷ 5000 ∷ 5150 ∷ 5299 ∷ 5446 ∷ 5592 ∷ 5736 ∷ 5878 ∷ 6018 ∷ 6157 ∷ 6293
    ∷ 6428 ∷ 6561 ∷ 6691 ∷ 6820 ∷ 6947 ∷ 7071 ∷ 7193 ∷ 7314 ∷ 7431 ∷ 7547
    ∷ 7660 ∷ 7771 ∷ 7880 ∷ 7986 ∷ 8090 ∷ 8192 ∷ 8290 ∷ 8387 ∷ 8480 ∷ 8572
    ∷ 8660 ∷ 8746 ∷ 8829 ∷ 8910 ∷ 8988 ∷ 9063 ∷ 9135 ∷ 9205 ∷ 9272 ∷ 9336
    ∷ 9397 ∷ 9455 ∷ 9511 ∷ 9563 ∷ 9613 ∷ 9659 ∷ 9703 ∷ 9744 ∷ 9781 ∷ 9816
    ∷ 9848 ∷ 9877 ∷ 9903 ∷ 9925 ∷ 9945 ∷ 9962 ∷ 9976 ∷ 9986 ∷ 9994 ∷ 9998
    ∷ 10000 ∷ [])

-- the sine of 0 to 90 degrees
unfoldable pub sine_at : ℤ → ℤ
sine_at deg = pos (slice_index sines (unsigned_abs deg))

-- the sine of 0 to 180 degrees: past 90 it is that of the angle to 180
unfoldable pub upper_sine : ℤ → ℤ
upper_sine deg = if int_le deg (pos 90) then sine_at deg else sine_at (pos 180 -ℤ deg)

-- the sine of 0 to 359 degrees: past 180 it is that of half a turn before, with the other sign
unfoldable pub sine_of : ℤ → ℤ
sine_of deg = if int_le deg (pos 180) then upper_sine deg else neg_ℤ (upper_sine (deg -ℤ pos 180))

-- the cosine is the sine of the angle to 90 degrees, taken round the circle
unfoldable pub cosine_of : ℤ → ℤ
cosine_of deg = sine_of (int_rem_euclid (pos 90 -ℤ deg) (pos 360))

-- the velocity at a ground speed along a heading: sine eastward, cosine northward, each axis cut toward zero
unfoldable pub velocity_of : (gs deg : ℤ) → Flat
velocity_of gs deg = record {
  east = int_div (gs *ℤ sine_of deg) (pos 10000);
  north = int_div (gs *ℤ cosine_of deg) (pos 10000);
}

-- the squares of sine and cosine add up to 100000000, but for 15000 at most
pub record IsNearCircle (sine cosine : ℤ) : Type 0 where
  pub least : pos 99985000 ≤ℤ (sine *ℤ sine +ℤ cosine *ℤ cosine)
  pub most : (sine *ℤ sine +ℤ cosine *ℤ cosine) ≤ℤ pos 100015000
