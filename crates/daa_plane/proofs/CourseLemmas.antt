-- How large a velocity's parts are, how far a plane is turned, and the nearest root.
use Rattle.std.proofs.Common.{◌≡◌, refl, sym, subst, ℕ, zero, suc, ◌+◌, ◌*◌, ◌/◌, ◌<◌, ◌≤◌, arith, true, ℤ, pos, negsuc, ◌+ℤ◌, ◌-ℤ◌, ◌*ℤ◌, ◌≤ℤ◌, ◌<ℤ◌, unsigned_abs}
use Rattle.std.specs.Prelude.{int_lt, int_div}
use Rattle.std.specs.Int.{IsIsqrt}
use Rattle.std.proofs.lemmas.Int.{ints, by_lt_z}
use Rattle.std.proofs.lemmas.Nat.{mul-le}
use Rattle.daa_fixed.specs.Size.{IsFrom, IsWithin}
use Rattle.daa_fixed.proofs.Bounds.{times, plus, minus, lt_test}
use Rattle.daa_heading.proofs.Quarters.{yes_le}
use Rattle.daa_plane.specs.Courses.{along, across, is_along, turn_from, speed_square, IsNearestRoot}
use Rattle.daa_plane.specs.Inside.Sizes.{IsDirection, IsTurn}
use Rattle.daa_plane.specs.Rounding.{nearest}
use Rattle.daa_plane.specs.declared.place.Place.{Place}
use Rattle.daa_plane.specs.declared.sines.Direction.{Direction}
use Rattle.daa_plane.proofs.PlaceLemmas.{IsSized, both}
use Rattle.daa_plane.proofs.Sizes.{divided, literal}

pub along-within : (own : Place) (d : Direction) → IsSized own → IsDirection d → IsWithin 200000000000 (along own d)
unfolding along
along-within own d h k = plus (times h.vx k.east) (times h.vy k.north)

pub across-within : (own : Place) (d : Direction) → IsSized own → IsDirection d → IsWithin 200000000000 (across own d)
unfolding across
across-within own d h k = minus (times h.vx k.north) (times h.vy k.east)

ratio-within : (x y : ℤ) → pos 0 <ℤ y → (pos 114 *ℤ pos (unsigned_abs x)) ≤ℤ y → IsWithin 5100 (nearest (pos 572958 *ℤ x) y)
unfolding nearest
ratio-within x (pos b) some h =
    let self : IsWithin (unsigned_abs x) x = record { size = omega arith } in
    let all = (plus (times (literal 2) (times (literal 572958) self)) (literal b)).size in
    let small = divided 5027 (2 * b) (pos 2 *ℤ (pos 572958 *ℤ x) +ℤ pos b) (omega (arith, ints, some)) (record { size = omega (arith, ints, all, h) }) in
    record { size = omega (arith, small.size) }
ratio-within x (negsuc b) some h = absurd (omega (arith, ints, some))

-- what the test of a direction says
pub along_parts : (own : Place) (d : Direction) → is_along own d ≡ true → (pos 0 <ℤ along own d) × ((pos 114 *ℤ pos (unsigned_abs (across own d))) ≤ℤ along own d)
unfolding is_along
along_parts own d e =
    let parts = both _ _ e in
    (yes_lt (pos 0) (along own d) parts.0, yes_le (pos 114 *ℤ pos (unsigned_abs (across own d))) (along own d) parts.1)
  where
    yes_lt : (x y : ℤ) → int_lt x y ≡ true → x <ℤ y
    yes_lt x y e = (lt_test x y x y refl refl).0 e

pub turn-within : (own : Place) (d : Direction) → is_along own d ≡ true → IsTurn (turn_from own d)
unfolding turn_from
turn-within own d e = let parts = along_parts own d e in ratio-within (across own d) (along own d) parts.0 parts.1

square_le : (w n q : ℕ) → w ≤ n → n * n ≤ 4 * q → (pos w *ℤ pos w) ≤ℤ (pos 4 *ℤ pos q)
square_le w n q h l = omega (arith, ints, mul-le w w n n h h, l)

square_lt : (w n q : ℕ) → n ≤ w → 4 * q < n * n → (pos 4 *ℤ pos q) <ℤ (pos w *ℤ pos w)
square_lt w n q h l = omega (arith, ints, mul-le n n w w h h, l)

odd_below : (half n q : ℕ) → pos 0 <ℤ pos half → 2 * half ≤ n + 1 → n * n ≤ 4 * q → ((pos 2 *ℤ pos half -ℤ pos 1) *ℤ (pos 2 *ℤ pos half -ℤ pos 1)) ≤ℤ (pos 4 *ℤ pos q)
odd_below zero n q some h l = absurd (omega (arith, ints, some))
odd_below (suc j) n q some h l =
    let e : pos (2 * j + 1) ≡ pos 2 *ℤ pos (suc j) -ℤ pos 1 = omega (arith, ints) in
    subst (λ (z : ℤ). (z *ℤ z) ≤ℤ (pos 4 *ℤ pos q)) e (square_le (2 * j + 1) n q (omega (arith, h)) l)

odd_above : (half n q : ℕ) → n ≤ 2 * half → 4 * q < (n + 1) * (n + 1) → (pos 4 *ℤ pos q) <ℤ ((pos 2 *ℤ pos half +ℤ pos 1) *ℤ (pos 2 *ℤ pos half +ℤ pos 1))
odd_above half n q h l =
    let e : pos (2 * half + 1) ≡ pos 2 *ℤ pos half +ℤ pos 1 = omega (arith, ints) in
    subst (λ (z : ℤ). (pos 4 *ℤ pos q) <ℤ (z *ℤ z)) e (square_lt (2 * half + 1) (n + 1) q (omega (arith, h)) l)

-- half of one more than the root of four times a square
pub nearest_root : (q : ℤ) (n : ℕ) → pos 0 ≤ℤ q → n * n ≤ unsigned_abs (pos 4 *ℤ q) → unsigned_abs (pos 4 *ℤ q) < (n + 1) * (n + 1)
    → IsNearestRoot q (pos ((n + 1) / 2))
nearest_root (pos q) n some l m = record {
  range = omega (arith, ints);
  least = λ positive. odd_below ((n + 1) / 2) n q positive (omega arith) l;
  most = odd_above ((n + 1) / 2) n q (omega arith) m;
}
nearest_root (negsuc q) n some l m = absurd (omega (arith, ints, some))

pub small_root : (q : ℤ) (n : ℕ) → pos 0 ≤ℤ q → q ≤ℤ pos 100000000 → n * n ≤ unsigned_abs (pos 4 *ℤ q) → n ≤ 20000
small_root (pos q) n some most l = by_lt_z (pos 20000) (pos n)
    (λ more. absurd (omega (arith, ints, mul-le 20001 20001 n n (omega (arith, ints, more)) (omega (arith, ints, more)), l, most)))
    (λ less. omega (arith, ints, less))
small_root (negsuc q) n some most l = absurd (omega (arith, ints, some))

pub square-from : (own : Place) → IsSized own → IsFrom (pos 0) (pos 200000000) (speed_square own)
square-from own h =
    record { least = omega (arith, ints, even own.vx, even own.vy); most = omega (arith, ints, even own.vx, even own.vy, most own.vx h.vx, most own.vy h.vy) }
  where
    even : (z : ℤ) → z *ℤ z ≡ pos (unsigned_abs z * unsigned_abs z)
    even (pos a) = omega (arith, ints)
    even (negsuc a) = omega (arith, ints)

    most : (z : ℤ) → IsWithin 10000 z → unsigned_abs z * unsigned_abs z ≤ 100000000
    most z h = mul-le (unsigned_abs z) (unsigned_abs z) 10000 10000 h.size h.size

-- what the code makes of a root
pub record IsHalved (square root : ℤ) : Type 0 where
  pub value : IsNearestRoot square (int_div (root +ℤ pos 1) (pos 2))
  pub range : IsFrom (pos 0) (pos 10000) (int_div (root +ℤ pos 1) (pos 2))
  pub small : IsFrom (pos 0) (pos 20000) root

pub root_of : (square root : ℤ) → pos 0 ≤ℤ square → square ≤ℤ pos 100000000 → IsIsqrt (pos 4 *ℤ square) root → IsHalved square root
root_of square root some most (n, e, l, m) = subst (λ (r : ℤ). IsHalved square r) (sym e) (halved n l m)
  where
    halved : (n : ℕ) → n * n ≤ unsigned_abs (pos 4 *ℤ square) → unsigned_abs (pos 4 *ℤ square) < (n + 1) * (n + 1) → IsHalved square (pos n)
    halved n l m =
        let few = small_root square n some most l in
        record {
          value = nearest_root square n some l m;
          range = record { least = omega (arith, ints); most = omega (arith, ints, few) };
          small = record { least = omega (arith, ints); most = omega (arith, ints, few) };
        }
