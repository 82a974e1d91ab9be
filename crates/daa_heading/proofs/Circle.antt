-- Sine and cosine are near the circle, so a velocity is hardly longer than its ground speed.
use Rattle.std.proofs.Common.{◌≡◌, ℕ, zero, suc, ◌+◌, ◌*◌, ◌<◌, ◌≤◌, ◌⊎◌, ⊎_elim, Bool, true, false, cond, leb, leb→le, T, sym, subst, arith, ℤ, pos, negsuc, ◌*ℤ◌, unsigned_abs}
use Rattle.std.specs.Prelude.{int_div}
use Rattle.std.proofs.lemmas.Int.{ints, unsigned_abs-mul}
use Rattle.std.proofs.lemmas.Nat.{mul-le}
use Rattle.std.proofs.Math.Nat.{eq-or-lt_of_le}
use Rattle.daa_fixed.specs.Size.{IsFrom}
use Rattle.daa_heading.proofs.Sines.{split}
use Rattle.daa_heading.specs.Heading.{sines, sine_at, upper_sine, sine_of, cosine_of, velocity_of, IsNearCircle}

-- the squares of sine and cosine
abbrev square : ℤ → ℕ
square z = unsigned_abs z * unsigned_abs z

abbrev length_at : ℕ → ℕ
length_at d = square (sine_of (pos d)) + square (cosine_of (pos d))

abbrev is_near : ℕ → Bool
is_near n = cond (leb 99985000 n) (leb n 100015000) false

abbrev all_near : ℕ → Bool
all_near zero = true
all_near (suc d) = cond (is_near (length_at d)) (all_near d) false

near_below : (m : ℕ) → T (all_near m) → (d : ℕ) → d < m → T (is_near (length_at d))
near_below zero t d h = absurd (omega (arith, h))
near_below (suc m) t d h =
    let s = split (is_near (length_at m)) (all_near m) t in
    ⊎_elim
    (λ e. subst (λ (i : ℕ). T (is_near (length_at i))) (sym e) s.0)
    (λ l. near_below m s.1 d l)
    (cases d m h)
  where
    cases : (d m : ℕ) → d < suc m → (d ≡ m) ⊎ (d < m)
    cases d m h = eq-or-lt_of_le (omega (arith, h))

-- all 360 degrees, computed
near_at : (d : ℕ) → d < 360 → T (is_near (length_at d))
unfolding sines sine_at upper_sine sine_of cosine_of
near_at d h = near_below 360 tt d h

long_at : (d : ℕ) → d < 360 → 99985000 ≤ length_at d
long_at d h = leb→le 99985000 (length_at d) (split (leb 99985000 (length_at d)) (leb (length_at d) 100015000) (near_at d h)).0

pub short_at : (d : ℕ) → d < 360 → length_at d ≤ 100015000
short_at d h = leb→le (length_at d) 100015000 (split (leb 99985000 (length_at d)) (leb (length_at d) 100015000) (near_at d h)).1

square_is : (z : ℤ) → z *ℤ z ≡ pos (square z)
square_is (pos a) = omega (arith, ints)
square_is (negsuc a) = omega (arith, ints)

pub near_circle : (d : ℤ) → IsFrom (pos 0) (pos 359) d → IsNearCircle (sine_of d) (cosine_of d)
near_circle (pos d) k =
    let s = square_is (sine_of (pos d)) in
    let c = square_is (cosine_of (pos d)) in
    let below : d < 360 = omega (arith, ints, k.most) in
    record {
      least = omega (arith, ints, s, c, long_at d below);
      most = omega (arith, ints, s, c, short_at d below);
    }
near_circle (negsuc d) k = absurd (omega (arith, ints, k.least))

quot_times : (z : ℤ) → unsigned_abs (int_div z (pos 10000)) * 10000 ≤ unsigned_abs z
quot_times (pos a) = omega arith
quot_times (negsuc a) = omega (arith, ints)

share_square : (gs s e : ℕ) → e * 10000 ≤ gs * s → (e * 10000) * (e * 10000) ≤ (gs * s) * (gs * s)
share_square gs s e h = mul-le (e * 10000) (e * 10000) (gs * s) (gs * s) h h

total : (gs s c e n : ℕ) → gs ≤ 10000 → s * s + c * c ≤ 100015000 → e * 10000 ≤ gs * s → n * 10000 ≤ gs * c → e * e + n * n ≤ (gs + 1) * (gs + 1)
total gs s c e n h k p q =
    let a = share_square gs s e p in
    let b = share_square gs c n q in
    let m : gs * gs * (s * s + c * c) ≤ gs * gs * 100015000 = mul-le (gs * gs) (s * s + c * c) (gs * gs) 100015000 (omega arith) k in
    let o : gs * gs ≤ 10000 * gs = mul-le gs gs 10000 gs h (omega arith) in
    omega (arith, a, b, m, o)

pub velocity-short : (gs d : ℤ) → IsFrom (pos 0) (pos 10000) gs
    → IsFrom (pos 0) (pos 359) d → unsigned_abs (velocity_of gs d).east * unsigned_abs (velocity_of gs d).east
    + unsigned_abs (velocity_of gs d).north * unsigned_abs (velocity_of gs d).north
    ≤ (unsigned_abs gs + 1) * (unsigned_abs gs + 1)
unfolding velocity_of
velocity-short gs (pos d) h k =
    total (unsigned_abs gs) (unsigned_abs (sine_of (pos d)))
    (unsigned_abs (cosine_of (pos d))) (unsigned_abs (int_div (gs *ℤ sine_of (pos d)) (pos 10000)))
    (unsigned_abs (int_div (gs *ℤ cosine_of (pos d)) (pos 10000)))
    (omega (arith, ints, h.least, h.most))
    (short_at d (omega (arith, ints, k.most)))
    (omega (arith, quot_times (gs *ℤ sine_of (pos d)), unsigned_abs-mul gs (sine_of (pos d))))
    (omega (arith, quot_times (gs *ℤ cosine_of (pos d)), unsigned_abs-mul gs (cosine_of (pos d))))
velocity-short gs (negsuc d) h k = absurd (omega (arith, ints, k.least))
