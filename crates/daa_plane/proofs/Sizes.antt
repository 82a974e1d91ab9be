-- How large rounded numbers are.
use Rattle.std.proofs.Common.{ℕ, ◌+◌, ◌*◌, ◌/◌, ◌<◌, ◌≤◌, arith, ℤ, pos, negsuc, ◌+ℤ◌, ◌*ℤ◌, ◌≤ℤ◌, T, leb, leb→le}
use Rattle.std.specs.Int.{int_div_euclid}
use Rattle.std.proofs.lemmas.Int.{ints}
use Rattle.std.proofs.lemmas.Nat.{div_below}
use Rattle.std.proofs.Math.Nat.{div-le_of_le-mul}
use Rattle.daa_fixed.specs.Size.{IsWithin}
use Rattle.daa_fixed.proofs.Bounds.{times, plus}
use Rattle.daa_plane.specs.Rounding.{nearest, part}

pub wider : {m : ℕ} (n : ℕ) {z : ℤ} → IsWithin m z → T (leb m n) → IsWithin n z
wider {m} n {z} h t = record { size = omega (arith, h.size, leb→le m n t) }

-- a literal
pub literal : (n : ℕ) → IsWithin n (pos n)
literal n = record { size = omega arith }

-- the quotient is no greater than the number
quotient : (m a b : ℕ) → a ≤ m → 0 < b → a / b ≤ m
quotient m a b h k = grind arith

pub euclid_within : (m : ℕ) (z d : ℤ) → pos 1 ≤ℤ d → IsWithin m z → IsWithin m (int_div_euclid z d)
euclid_within m (pos a) (pos b) some h = record { size = quotient m a b h.size (omega (arith, ints, some)) }
euclid_within m (negsuc a) (pos b) some h = record { size = omega (arith, ints, h.size, quotient a a b (omega arith) (omega (arith, ints, some))) }
euclid_within m z (negsuc b) some h = absurd (omega (arith, ints, some))

-- a number that is at most k divisors is divided into at most k
pub divided : (k d : ℕ) (z : ℤ) → 0 < d → IsWithin (d * k) z → IsWithin k (int_div_euclid z (pos d))
divided k d (pos a) some h = record { size = div-le_of_le-mul d h.size }
divided k d (negsuc a) some h = record { size = omega (arith, div_below a d k some (below k d a (omega (arith, h.size)))) }
  where
    below : (k d a : ℕ) → a + 1 ≤ d * k → a < k * d
    below k d a h = grind arith

pub nearest_small : (k b : ℕ) {m : ℕ} {a : ℤ} → 0 < b → IsWithin m a → T (leb (2 * m + b) (2 * b * k)) → IsWithin k (nearest a (pos b))
unfolding nearest
nearest_small k b {m} {a} some h t = divided k (2 * b) (pos 2 *ℤ a +ℤ pos b) (omega (arith, some))
    (record { size = omega (arith, (plus (times (literal 2) h) (literal b)).size, leb→le (2 * m + b) (2 * b * k) t) })

pub part_small : (k : ℕ) {m n : ℕ} {a b : ℤ} → IsWithin m a → IsWithin n b → T (leb (2 * (m * n) + 10000000) (20000000 * k)) → IsWithin k (part a b)
unfolding part
part_small k {m} {n} {a} {b} h l t = nearest_small k 10000000 (omega arith) (times h l) t
