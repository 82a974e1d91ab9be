-- How the errors grow from second to second.
use Rattle.std.proofs.Common.{[], ◌∷◌, ◌≡◌, arith, ℕ, ◌+◌, ◌*◌, ◌≤◌, ◌<◌, pos}
use Rattle.std.proofs.lemmas.Int.{ints}
use Rattle.std.proofs.lemmas.Nat.{mul-le}
use Rattle.daa_fixed.proofs.Ring.{ring, #, ◌⊕◌, ◌⊗◌}
use Rattle.daa_margin.specs.ErrorBounds.{AreErrorBoundsInRange}
use Rattle.daa_margin.specs.Later.{bounds_after}
use Rattle.daa_state.specs.declared.word.PairBounds.{PairBounds}
use Rattle.daa_state.specs.InRange.{AreBoundsInRange}
use Rattle.daa_legs.specs.Errors.{errors_on}

-- an error: what two reports add, u units each, and what two rates have made of it
abbrev pub error_of : (u p p' s s' age k : ℕ) → ℕ
error_of u p p' s s' age k = u * (p + p') + s * k + s' * (age + k)

-- j seconds later
pub later : (u p p' s s' age k j : ℕ) → error_of u p p' s s' age k + j * (s + s') ≡ error_of u p p' s s' age (k + j)
later u p p' s s' age k j = same _ _
    (let U = # 0 in let P = # 1 in let P2 = # 2 in let S = # 3 in let S2 = # 4 in let A = # 5 in let K = # 6 in let J = # 7 in
    ring (pos u ∷ pos p ∷ pos p' ∷ pos s ∷ pos s' ∷ pos age ∷ pos k ∷ pos j ∷ [])
    (U ⊗ (P ⊕ P2) ⊕ S ⊗ K ⊕ S2 ⊗ (A ⊕ K) ⊕ J ⊗ (S ⊕ S2))
    (U ⊗ (P ⊕ P2) ⊕ S ⊗ (K ⊕ J) ⊕ S2 ⊗ (A ⊕ (K ⊕ J)))
    tt)
  where
    same : (x y : ℕ) → pos x ≡ pos y → x ≡ y
    same x y e = omega (arith, ints)

pub errors_later : (bounds : PairBounds) (age k j : ℕ) → bounds_after (errors_on bounds age k) j ≡ errors_on bounds age (k + j)
errors_later bounds age k j = λ i. record {
  place = later 36 bounds.own.place bounds.aircraft.place bounds.own.speed bounds.aircraft.speed age k j i;
  speed = bounds.own.speed + bounds.aircraft.speed;
  height = later 60 bounds.own.height bounds.aircraft.height bounds.own.climb bounds.aircraft.climb age k j i;
  climb = bounds.own.climb + bounds.aircraft.climb;
}

-- its parts are small
pub part : (s k n : ℕ) → s ≤ 10000 → k ≤ n → s * k ≤ 10000 * n
part s k n h l = mul-le s k 10000 n h l

pub errors_in_range : (bounds : PairBounds) (age k : ℕ) → AreBoundsInRange bounds → age ≤ 60 → k < 180 → AreErrorBoundsInRange (errors_on bounds age k)
errors_in_range bounds age k h a l =
    let f : k ≤ 180 = omega (arith, l) in
    let g : age + k ≤ 240 = omega (arith, a, l) in
    let own = h.own in
    let other = h.aircraft in
    let op = own.place in let oh = own.height in let os = own.speed in let oc = own.climb in
    let tp = other.place in let th = other.height in let ts = other.speed in let tc = other.climb in
    let s1 = part bounds.own.speed k 180 os f in
    let s2 = part bounds.aircraft.speed (age + k) 240 ts g in
    let c1 = part bounds.own.climb k 180 oc f in
    let c2 = part bounds.aircraft.climb (age + k) 240 tc g in
    record {
      place = omega (arith, op, tp, s1, s2);
      speed = omega (arith, os, ts);
      height = omega (arith, oh, th, c1, c2);
      climb = omega (arith, oc, tc);
    }
