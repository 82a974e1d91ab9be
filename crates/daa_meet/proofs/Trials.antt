-- Whether a leg violates a volume at some time, in a form that can be computed: by trying. It does so at some fraction exactly if it
-- does so at one whose denominator is at most 2^33.
use Rattle.std.specs.Prelude.{ℕ, zero, suc, ◌^◌, ℤ, pos, ◌+ℤ◌, ◌*ℤ◌, neg_ℤ, unsigned_abs, Bool, false, ◌&&◌, ◌||◌, int_le, int_lt}
use Rattle.daa_fixed.specs.declared.Leg.{Leg}
use Rattle.daa_fixed.specs.Flat.{dot_of, cross_of, square_of}
use Rattle.daa_taumod.specs.declared.Model.{Model}
use Rattle.daa_taumod.specs.declared.Model.TheVariants.{Tau, Tcpa, Taumod, Tep}
use Rattle.daa_taumod.specs.declared.Volume.{Volume}
use Rattle.daa_taumod.specs.Volume.{place_at, height_at}

-- ---- the volume at n/d

-- the horizontal distance is at most dthr
abbrev pub is_near : Leg → Volume → ℤ → ℤ → Bool
is_near leg volume n d = int_le (dot_of (place_at leg n d) (place_at leg n d)) (square_of (pos volume.dthr *ℤ d))

-- tau, the time to the closest approach, modified tau or the time until the distance is dthr is at most tthr
abbrev pub is_soon : Model → Leg → Volume → ℤ → ℤ → Bool
is_soon Tau leg volume n d =
    int_le (dot_of (place_at leg n d) (place_at leg n d) +ℤ pos volume.tthr *ℤ d *ℤ dot_of (place_at leg n d) leg.velocity.flat) (pos 0)
is_soon Tcpa leg volume n d =
    int_le (neg_ℤ (dot_of (place_at leg n d) leg.velocity.flat)) (pos volume.tthr *ℤ d *ℤ dot_of leg.velocity.flat leg.velocity.flat)
is_soon Taumod leg volume n d =
    int_le (dot_of (place_at leg n d) (place_at leg n d) +ℤ pos volume.tthr *ℤ d *ℤ dot_of (place_at leg n d) leg.velocity.flat) (square_of (pos volume.dthr *ℤ d))
is_soon Tep leg volume n d =
    int_le (pos 0) (dot_of (place_at leg (n +ℤ pos volume.tthr *ℤ d) d) leg.velocity.flat) || is_near leg volume (n +ℤ pos volume.tthr *ℤ d) d

-- the horizontal distance at the closest approach is at most dthr
abbrev pub passes_near : Leg → Volume → ℤ → ℤ → Bool
passes_near leg volume n d = int_le (square_of (cross_of (place_at leg n d) leg.velocity.flat)) (square_of (pos volume.dthr *ℤ d) *ℤ dot_of leg.velocity.flat leg.velocity.flat)

-- the horizontal distance falls, soon enough and to a close enough approach
abbrev pub is_closing : Leg → Volume → ℤ → ℤ → Bool
is_closing leg volume n d = int_lt (dot_of (place_at leg n d) leg.velocity.flat) (pos 0) && (is_soon volume.model leg volume n d && passes_near leg volume n d)

-- the height difference is at most zthr
abbrev pub is_near_in_height : Leg → Volume → ℤ → ℤ → Bool
is_near_in_height leg volume n d = int_le (pos (unsigned_abs (height_at leg n d))) (pos volume.zthr *ℤ d)

-- the height difference falls, and reaches 0 in at most tcoa seconds
abbrev pub is_co_altitude_soon : Leg → Volume → ℤ → ℤ → Bool
is_co_altitude_soon leg volume n d =
    int_lt (height_at leg n d *ℤ leg.velocity.up) (pos 0) && int_le (pos (unsigned_abs (height_at leg n d))) (pos volume.tcoa *ℤ d *ℤ pos (unsigned_abs leg.velocity.up))

-- the volume is violated: in its horizontal and in its vertical part
unfoldable pub is_violated : Leg → Volume → ℤ → ℤ → Bool
is_violated leg volume n d = (is_near leg volume n d || is_closing leg volume n d) && (is_near_in_height leg volume n d || is_co_altitude_soon leg volume n d)

-- ---- by trying

-- a test is true at some number below n
unfoldable pub some_below : (ℕ → Bool) → ℕ → Bool
some_below f zero = false
some_below f (suc n) = f n || some_below f n

-- the volume is violated at n / (d + 1), and that is a time of the leg
abbrev pub is_violated_at : Leg → Volume → (d n : ℕ) → Bool
is_violated_at leg volume d n = int_le (pos n) (pos leg.secs *ℤ pos (suc d)) && is_violated leg volume (pos n) (pos (suc d))

-- the volume is violated at some time of the leg
unfoldable pub is_violated_sometime : Leg → Volume → Bool
is_violated_sometime leg volume = some_below (λ d. some_below (is_violated_at leg volume d) (suc (2 ^ 41))) (2 ^ 33)
