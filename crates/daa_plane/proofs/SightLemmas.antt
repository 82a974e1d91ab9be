-- How large turned ways and velocities are.
use Rattle.std.proofs.Common.{◌≡◌, refl, ℕ, ◌+◌, ◌*◌, ◌<◌, T, leb, arith, Bool, true, false, ℤ, pos, ◌+ℤ◌, ◌-ℤ◌, ◌<ℤ◌, ◌≤ℤ◌}
use Rattle.std.specs.Prelude.{int_lt, if◌then◌else◌}
use Rattle.std.proofs.lemmas.Int.{ints, by_lt_z}
use Rattle.daa_fixed.specs.Size.{IsFrom, IsWithin}
use Rattle.daa_fixed.proofs.Bounds.{times, plus, minus, zero_less-within, lt_test}
use Rattle.daa_plane.specs.Inside.Sizes.{IsWay, IsTurn}
use Rattle.daa_plane.specs.Sight.{turned_east, turned_north, way_angle, speed_angle}
use Rattle.daa_plane.specs.Sines.{upper_sine, sine_of, cosine_of, degree_of, arc_of}
use Rattle.daa_plane.specs.declared.ways.Way.{Way}
use Rattle.daa_plane.proofs.SineLemmas.{arc_of-within, sine_past-within}
use Rattle.daa_plane.proofs.Sizes.{wider, literal, nearest_small}

pub upper_sine-within : (angle : ℤ) → IsFrom (pos 0) (pos 900000000) angle → IsWithin 10200000 (upper_sine angle)
unfolding upper_sine
upper_sine-within angle h = sine_past-within (degree_of angle) (arc_of angle) (arc_of-within angle h)

yes_lt : (x y : ℤ) → int_lt x y ≡ true → x <ℤ y
yes_lt x y e = (lt_test x y x y refl refl).0 e

no_lt : (x y : ℤ) → int_lt x y ≡ false → y ≤ℤ x
no_lt x y e = by_lt_z x y (λ l. let t = (lt_test x y x y refl refl).1 l in absurd (cc (t, e))) (λ g. g)

pub sine_of-within : (angle : ℤ) → IsWithin 900000000 angle → IsWithin 10200000 (sine_of angle)
unfolding sine_of
sine_of-within angle h = go (int_lt angle (pos 0)) refl
  where
    go : (b : Bool) → int_lt angle (pos 0) ≡ b → IsWithin 10200000 (if b then pos 0 -ℤ upper_sine (pos 0 -ℤ angle) else upper_sine angle)
    go true e =
        let low = yes_lt angle (pos 0) e in
        zero_less-within (upper_sine (pos 0 -ℤ angle)) (upper_sine-within (pos 0 -ℤ angle) (record { least = omega (arith, ints, low); most = omega (arith, ints, h.size) }))
    go false e =
        let low = no_lt angle (pos 0) e in
        upper_sine-within angle (record { least = low; most = omega (arith, ints, h.size) })

pub cosine_of-within : (angle : ℤ) → IsWithin 900000000 angle → IsWithin 10200000 (cosine_of angle)
unfolding cosine_of
cosine_of-within angle h = go (int_lt angle (pos 0)) refl
  where
    go : (b : Bool) → int_lt angle (pos 0) ≡ b → IsWithin 10200000 (if b then upper_sine (pos 900000000 +ℤ angle) else upper_sine (pos 900000000 -ℤ angle))
    go true e =
        let low = yes_lt angle (pos 0) e in
        upper_sine-within (pos 900000000 +ℤ angle) (record { least = omega (arith, ints, h.size); most = omega (arith, ints, low) })
    go false e =
        let low = no_lt angle (pos 0) e in
        upper_sine-within (pos 900000000 -ℤ angle) (record { least = omega (arith, ints, h.size); most = omega (arith, ints, low) })

pub turned_east-within : (k b : ℕ) {m : ℕ} (east north angle : ℤ) → 0 < b → IsWithin m east → IsWithin m north → IsWithin 900000000 angle
    → T (leb (2 * (m * 10200000 + m * 10200000) + b) (2 * b * k)) → IsWithin k (turned_east east north angle (pos b))
unfolding turned_east
turned_east-within k b east north angle some e n h t = nearest_small k b some (minus (times e (cosine_of-within angle h)) (times n (sine_of-within angle h))) t

pub turned_north-within : (k b : ℕ) {m : ℕ} (east north angle : ℤ) → 0 < b → IsWithin m east → IsWithin m north → IsWithin 900000000 angle
    → T (leb (2 * (m * 10200000 + m * 10200000) + b) (2 * b * k)) → IsWithin k (turned_north east north angle (pos b))
unfolding turned_north
turned_north-within k b east north angle some e n h t = nearest_small k b some (plus (times e (sine_of-within angle h)) (times n (cosine_of-within angle h))) t

pub way_angle-within : (way : Way) (turn : ℤ) → IsWay way → IsTurn turn → IsWithin 900000000 (way_angle way turn)
unfolding way_angle
way_angle-within way turn h t = wider 900000000 (plus (nearest_small 70000001 2 (omega arith) h.turn tt) (times (literal 1000) t)) tt

pub speed_angle-within : (way : Way) (turn : ℤ) → IsWay way → IsTurn turn → IsWithin 900000000 (speed_angle way turn)
unfolding speed_angle
speed_angle-within way turn h t = wider 900000000 (plus h.turn (times (literal 1000) t)) tt
