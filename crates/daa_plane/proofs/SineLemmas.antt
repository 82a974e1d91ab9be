-- How large sines are, and the four quarters of a direction.
use Rattle.std.proofs.Common.{◌≡◌, ap, arith, Bool, true, false, ℤ, pos, negsuc, ◌-ℤ◌, ◌*ℤ◌, unsigned_abs, FitsSigned, w64}
use Rattle.std.specs.Prelude.{if◌then◌else◌}
use Rattle.std.proofs.lemmas.Int.{ints}
use Rattle.daa_fixed.specs.Size.{IsFrom, IsWithin}
use Rattle.daa_fixed.proofs.Bounds.{plus, minus}
use Rattle.daa_heading.proofs.Sines.{below_at}
use Rattle.daa_plane.specs.Rounding.{nearest, part}
use Rattle.daa_plane.specs.Sines.{sines, sine_at, degree_of, arc_of, sine_past}
use Rattle.daa_plane.proofs.Sizes.{wider, literal, nearest_small, part_small}

pub if_yes : {A : Type 0} (test : Bool) (a b : A) → test ≡ true → (if test then a else b) ≡ a
if_yes test a b e = ap (λ (t : Bool). if t then a else b) e

pub if_no : {A : Type 0} (test : Bool) (a b : A) → test ≡ false → (if test then a else b) ≡ b
if_no test a b e = ap (λ (t : Bool). if t then a else b) e

pub sine_at-from : (degree : ℤ) → IsFrom (pos 0) (pos 10000000) (sine_at degree)
unfolding sine_at sines
sine_at-from degree = record { least = omega (arith, ints); most = omega (arith, ints, below_at 10000000 sines tt (unsigned_abs degree)) }

pub sine_at-within : (degree : ℤ) → IsWithin 10000000 (sine_at degree)
unfolding sine_at sines
sine_at-within degree = record { size = below_at 10000000 sines tt (unsigned_abs degree) }

pub degree_of-from : (angle : ℤ) → IsFrom (pos 0) (pos 900000000) angle → IsFrom (pos 0) (pos 90) (degree_of angle)
unfolding degree_of nearest
degree_of-from (pos a) h = record { least = omega (arith, ints); most = omega (arith, ints, h.most) }
degree_of-from (negsuc a) h = absurd (omega (arith, ints, h.least))

rest-within : (angle : ℤ) → IsFrom (pos 0) (pos 900000000) angle → IsWithin 5000000 (angle -ℤ pos 10000000 *ℤ degree_of angle)
unfolding degree_of nearest
rest-within (pos a) h = record { size = omega (arith, ints) }
rest-within (negsuc a) h = absurd (omega (arith, ints, h.least))

pub arc_of-within : (angle : ℤ) → IsFrom (pos 0) (pos 900000000) angle → IsWithin 100000 (arc_of angle)
unfolding arc_of
arc_of-within angle h = part_small 100000 (rest-within angle h) (literal 174533) tt

pub bent-within : (arc : ℤ) → IsWithin 100000 arc → IsWithin 501 (nearest (part arc arc) (pos 2))
bent-within arc h = nearest_small 501 2 (omega arith) (part_small 1001 h h tt) tt

pub sine_past-within : (degree arc : ℤ) → IsWithin 100000 arc → IsWithin 10200000 (sine_past degree arc)
unfolding sine_past
sine_past-within degree arc h = wider 10200000
    (minus (plus (sine_at-within degree) (part_small 100001 (sine_at-within (pos 90 -ℤ degree)) h tt)) (part_small 502 (sine_at-within degree) (bent-within arc h) tt))
    tt

-- what code computes for the negative of a sine fits
pub less-fits : (z : ℤ) → IsFrom (pos 0) (pos 10000000) z → FitsSigned w64 (pos 0 -ℤ z)
less-fits z h = omega (arith, ints, h.least, h.most)
