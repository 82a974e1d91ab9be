-- Each number has one root above, and the root grows with the number.
use Rattle.std.proofs.Common.{[], ◌∷◌, ◌≡◌, sym, subst, ℕ, zero, suc, ◌+◌, ◌*◌, ◌<◌, ◌≤◌, unsigned_abs, arith, ℤ, pos, negsuc, ◌+ℤ◌, ◌*ℤ◌, ◌-ℤ◌, ◌≤ℤ◌, ◌<ℤ◌}
use Rattle.std.proofs.lemmas.Int.{ints, by_lt_z}
use Rattle.daa_fixed.proofs.Ring.{ring, #, lit, ◌⊕◌, ◌⊗◌}
use Rattle.daa_fixed.proofs.Integers.{mul_le_mul, le_trans_ℤ, clash, root_within}
use Rattle.std.specs.Int.{IsIsqrt}
use Rattle.daa_margin.specs.MayViolate.{IsRootAbove}

-- a number with its root above
pub record HasRootAbove (square : ℤ) : Type 0 where
  pub root : ℤ
  pub is : IsRootAbove square root

one_more_squared : (r : ℤ) → (r +ℤ pos 1) *ℤ (r +ℤ pos 1) ≡ r *ℤ r +ℤ pos 2 *ℤ r +ℤ pos 1
one_more_squared r = let R = # 0 in ring (r ∷ []) ((R ⊕ lit (pos 1)) ⊗ (R ⊕ lit (pos 1))) (R ⊗ R ⊕ lit (pos 2) ⊗ R ⊕ lit (pos 1)) tt

-- squares of numbers that are not negative grow with them
pub squares_grow : (x y : ℤ) → pos 0 ≤ℤ x → x ≤ℤ y → (x *ℤ x) ≤ℤ (y *ℤ y)
squares_grow x y x0 h = mul_le_mul x x y y x0 (omega (arith, ints)) h h x0

-- so a number with a greater square is greater
greater : (r x : ℤ) → pos 0 ≤ℤ x → (r *ℤ r) <ℤ (x *ℤ x) → r <ℤ x
greater r x x0 h = by_lt_z r x (λ less. less) (λ more. absurd (clash (x *ℤ x) (r *ℤ r) (squares_grow x r x0 more) h))

-- one more than a number has the same root or one more
next : (n : ℕ) (r : ℤ) → IsRootAbove (pos n) r → HasRootAbove (pos (suc n))
next n r h = by_lt_z (r *ℤ r) (pos (suc n)) (λ short. record { root = r +ℤ pos 1; is = more short }) (λ long. record { root = r; is = same long })
  where
    more : (r *ℤ r) <ℤ pos (suc n) → IsRootAbove (pos (suc n)) (r +ℤ pos 1)
    more short = record {
      from = omega (arith, ints, h.from);
      above = grown (r *ℤ r) (h.above) (one_more_squared r);
      least = λ x x0 k. after (greater r x x0 (omega (arith, ints)));
    }
      where
        grown : (q : ℤ) → pos n ≤ℤ q → (r +ℤ pos 1) *ℤ (r +ℤ pos 1) ≡ q +ℤ pos 2 *ℤ r +ℤ pos 1 → pos (suc n) ≤ℤ ((r +ℤ pos 1) *ℤ (r +ℤ pos 1))
        grown q up e = omega (arith, ints, h.from)

        after : {x : ℤ} → r <ℤ x → (r +ℤ pos 1) ≤ℤ x
        after l = omega (arith, ints)

    same : pos (suc n) ≤ℤ (r *ℤ r) → IsRootAbove (pos (suc n)) r
    same long = record {
      from = h.from;
      above = long;
      least = λ x x0 k. h.least x x0 (below (x *ℤ x) k);
    }
      where
        below : (q : ℤ) → pos (suc n) ≤ℤ q → pos n ≤ℤ q
        below q k = omega (arith, ints)

of_natural : (n : ℕ) → HasRootAbove (pos n)
of_natural zero = record { root = pos 0; is = record { from = omega (arith, ints); above = omega (arith, ints); least = λ x x0 k. x0 } }
of_natural (suc n) = let h = of_natural n in next n h.root h.is

pub root_above : (square : ℤ) → HasRootAbove square
root_above (pos n) = of_natural n
root_above (negsuc n) = record { root = pos 0; is = record { from = omega (arith, ints); above = omega (arith, ints); least = λ x x0 k. x0 } }

-- a greater number has no lesser root
pub roots_grow : (x y r s : ℤ) → x ≤ℤ y → IsRootAbove x r → IsRootAbove y s → r ≤ℤ s
roots_grow x y r s h a b = a.least s b.from (le_trans_ℤ x y (s *ℤ s) h b.above)

-- no number has two
pub one_root : (x r s : ℤ) → IsRootAbove x r → IsRootAbove x s → r ≡ s
one_root x r s a b = let one = a.least s b.from b.above in let other = b.least r a.from a.above in omega (arith, ints)

-- a root above, where it is known
pub is_root : (k r : ℤ) → k ≤ℤ (r *ℤ r) → ((r -ℤ pos 1) *ℤ (r -ℤ pos 1)) <ℤ k → pos 1 ≤ℤ r → IsRootAbove k r
is_root k r above below r1 = record {
  from = omega (arith, ints, r1);
  above = above;
  least = λ x x0 h. by_lt_z x r (λ less. absurd (clash (x *ℤ x) ((r -ℤ pos 1) *ℤ (r -ℤ pos 1)) (squares_grow x (r -ℤ pos 1) x0 (before less)) (after h below))) (λ more. more);
}
  where
    before : {x : ℤ} → x <ℤ r → x ≤ℤ (r -ℤ pos 1)
    before h = omega (arith, ints)

    after : {x y : ℤ} → k ≤ℤ x → y <ℤ k → y <ℤ x
    after h l = omega (arith, ints)

pub zero_root : IsRootAbove (pos 0) (pos 0)
zero_root = record { from = omega (arith, ints); above = omega (arith, ints); least = λ x x0 h. x0 }

-- ---- what `isqrt` answers is the root, or one less
pub record IsRootBelow (z r : ℤ) : Type 0 where
  pub from : pos 0 ≤ℤ r
  pub low : (r *ℤ r) ≤ℤ z
  pub high : z ≤ℤ ((r +ℤ pos 1) *ℤ (r +ℤ pos 1))

pub isqrt_is : (z r : ℤ) → pos 0 ≤ℤ z → IsIsqrt z r → IsRootBelow z r
isqrt_is z r z0 h = of h.0 h.1 h.2 h.3
  where
    below : (m : ℕ) → m ≤ unsigned_abs z → pos m ≤ℤ z
    below m k = omega (arith, ints, z0)

    above : (m : ℕ) → unsigned_abs z < m → z ≤ℤ pos m
    above m k = omega (arith, ints, z0)

    of : (n : ℕ) → r ≡ pos n → n * n ≤ unsigned_abs z → unsigned_abs z < (n + 1) * (n + 1) → IsRootBelow z r
    of n e low high = subst (λ (y : ℤ). IsRootBelow z y) (sym e) (record {
      from = omega (arith, ints);
      low = below (n * n) low;
      high = above ((n + 1) * (n + 1)) high;
    })

pub root_exact : (z r : ℤ) → IsRootBelow z r → z ≤ℤ (r *ℤ r) → IsRootAbove z r
root_exact z r h above = record { from = h.from; above = above; least = λ x x0 k. root_within r x x0 (le_trans_ℤ (r *ℤ r) z (x *ℤ x) h.low k) }

pub root_next : (z r : ℤ) → IsRootBelow z r → (r *ℤ r) <ℤ z → IsRootAbove z (r +ℤ pos 1)
root_next z r h short = record {
  from = omega (arith, ints, h.from);
  above = h.high;
  least = λ x x0 k. after (greater r x x0 (farther (x *ℤ x) k));
}
  where
    farther : (y : ℤ) → z ≤ℤ y → (r *ℤ r) <ℤ y
    farther y k = omega (arith, ints, short)

    after : {x : ℤ} → r <ℤ x → (r +ℤ pos 1) ≤ℤ x
    after l = omega (arith, ints)
