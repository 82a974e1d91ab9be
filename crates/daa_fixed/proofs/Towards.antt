-- What moves toward a target: how far it may be, and how far it goes in one step.
use Rattle.std.proofs.Common.{◌≡◌, refl, ℕ, T, arith, ℤ, pos, neg_ℤ, ◌+ℤ◌, ◌-ℤ◌, ◌≤ℤ◌}
use Rattle.std.specs.Int.{int_min}
use Rattle.std.specs.Int.Signed.{le_z, le_z_yes}
use Rattle.std.proofs.lemmas.Int.{ints, int_max_is, int_min_is}
use Rattle.daa_fixed.specs.Size.{IsWithin, IsFrom}
use Rattle.daa_fixed.specs.Toward.{toward_of, IsNearestWithin}

-- between two numbers that are small
pub from_within : {z low high : ℤ} (m : ℕ) → T (le_z (neg_ℤ (pos m)) low) → T (le_z high (pos m)) → IsFrom low high z → IsWithin m z
from_within {z} {low} {high} m s t h =
    let l : neg_ℤ (pos m) ≤ℤ low = le_z_yes s in
    let u : high ≤ℤ pos m = le_z_yes t in
    record { size = omega (arith, ints, h.least, h.most) }

pub toward_of-between : (low high x y r : ℤ) → pos 0 ≤ℤ r → IsFrom low high x → IsFrom low high y → IsFrom low high (toward_of x y r)
toward_of-between low high x y r r0 h k = record {
  least = omega (arith, ints, h.least, k.least, int_max_is (x -ℤ r) (int_min (x +ℤ r) y), int_min_is (x +ℤ r) y);
  most = omega (arith, ints, h.most, k.most, int_max_is (x -ℤ r) (int_min (x +ℤ r) y), int_min_is (x +ℤ r) y);
}

-- one more step of r moves by at most r
pub toward_of-step : (x y a r : ℤ) → pos 0 ≤ℤ a → pos 0 ≤ℤ r → IsFrom (neg_ℤ r) r (toward_of x y (a +ℤ r) -ℤ toward_of x y a)
toward_of-step x y a r a0 r0 =
    let first = int_max_is (x -ℤ (a +ℤ r)) (int_min (x +ℤ (a +ℤ r)) y) in
    let second = int_min_is (x +ℤ (a +ℤ r)) y in
    let third = int_max_is (x -ℤ a) (int_min (x +ℤ a) y) in
    let fourth = int_min_is (x +ℤ a) y in
    record { least = omega (arith, ints); most = omega (arith, ints) }

-- x is the number of the definition exactly where it is the nearest one
pub toward_of-nearest : (now target rate x : ℤ) → pos 0 ≤ℤ rate → x ≡ toward_of now target rate → IsNearestWithin now target rate x
toward_of-nearest now target rate x r0 e =
    let most = int_max_is (now -ℤ rate) (int_min (now +ℤ rate) target) in
    let least = int_min_is (now +ℤ rate) target in
    record { within = omega (arith, ints); nearest = λ y h. omega (arith, ints, h) }

pub nearest-toward_of : (now target rate x : ℤ) → pos 0 ≤ℤ rate → IsNearestWithin now target rate x → x ≡ toward_of now target rate
nearest-toward_of now target rate x r0 h =
    let t : ℤ = toward_of now target rate in
    let k : IsNearestWithin now target rate t = toward_of-nearest now target rate t r0 refl in
    let u = h.nearest t k.within in
    let v = k.nearest x h.within in
    let most = int_max_is (now -ℤ rate) (int_min (now +ℤ rate) target) in
    let least = int_min_is (now +ℤ rate) target in
    omega (arith, ints, h.within)
