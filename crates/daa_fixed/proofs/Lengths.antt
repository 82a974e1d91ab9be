-- Lengths and products of two horizontal vectors.
use Rattle.std.proofs.Common.{[], ◌∷◌, ◌≡◌, sym, subst, arith, ℤ, pos, ◌+ℤ◌, ◌*ℤ◌, neg_ℤ, ◌≤ℤ◌, ◌<ℤ◌}
use Rattle.std.proofs.lemmas.Int.{ints}
use Rattle.daa_fixed.proofs.Ring.{square_nonneg, ring, #, ⊝, ◌⊕◌, ◌⊖◌, ◌⊗◌}
use Rattle.daa_fixed.proofs.Integers.{mul_pos, cancel_lt, sum_nonneg}
use Rattle.daa_fixed.specs.declared.Flat.{Flat}
use Rattle.daa_fixed.specs.Flat.{dot_of, cross_of}

-- the squares of dot and cross product add up to the product of the squares
pub lagrange : (s v : Flat) → dot_of s s *ℤ dot_of v v ≡ dot_of s v *ℤ dot_of s v +ℤ cross_of s v *ℤ cross_of s v
lagrange s v =
    let A = # 0 in let B = # 1 in let C = # 2 in let D = # 3 in
    ring (s.east ∷ s.north ∷ v.east ∷ v.north ∷ [])
    ((A ⊗ A ⊕ B ⊗ B) ⊗ (C ⊗ C ⊕ D ⊗ D))
    ((A ⊗ C ⊕ B ⊗ D) ⊗ (A ⊗ C ⊕ B ⊗ D) ⊕ (A ⊗ D ⊖ B ⊗ C) ⊗ (A ⊗ D ⊖ B ⊗ C))
    tt

pub dot_nonneg : (s : Flat) → pos 0 ≤ℤ dot_of s s
dot_nonneg s = sum_nonneg _ _ (square_nonneg s.east) (square_nonneg s.north)

-- what nears moves
pub nearing_moves : (s v : Flat) → dot_of s v <ℤ pos 0 → pos 0 <ℤ dot_of v v
nearing_moves s v h = cancel_lt (dot_of s s) (dot_of v v) (dot_nonneg s)
    (subst (λ (z : ℤ). pos 0 <ℤ z) (sym (lagrange s v)) (more _ _ (square_pos (dot_of s v) h) (square_nonneg (cross_of s v))))
  where
    more : (x y : ℤ) → pos 0 <ℤ x → pos 0 ≤ℤ y → pos 0 <ℤ (x +ℤ y)
    more x y h k = omega (arith, ints)

    square_pos : (x : ℤ) → x <ℤ pos 0 → pos 0 <ℤ (x *ℤ x)
    square_pos x h = subst (λ (z : ℤ). pos 0 <ℤ z) (let X = # 0 in ring (x ∷ []) (⊝ X ⊗ ⊝ X) (X ⊗ X) tt) (mul_pos (neg_ℤ x) (neg_ℤ x) (omega (arith, ints)) (omega (arith, ints)))
