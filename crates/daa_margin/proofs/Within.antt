-- What holds within the next seconds, as what holds between two times.
use Rattle.std.proofs.Common.{[], ◌∷◌, ◌≡◌, ◌↔◌, ◌⊎◌, inl, inr, ⊎_elim, arith, ℕ, ℤ, pos, ◌+ℤ◌, ◌*ℤ◌, ◌≤ℤ◌, ◌<ℤ◌}
use Rattle.std.proofs.lemmas.Int.{ints, by_lt_z}
use Rattle.daa_fixed.proofs.Ring.{mul_nonneg, square_nonneg, ring, #, ◌⊕◌, ◌⊖◌, ◌⊗◌}
use Rattle.daa_fixed.proofs.Integers.{by_rest, sum_nonneg}
use Rattle.daa_fixed.specs.declared.Leg.{Leg}
use Rattle.daa_taumod.specs.declared.Volume.{Volume}
use Rattle.daa_taumod.specs.Volume.{height_at}
use Rattle.daa_margin.specs.declared.ErrorBounds.{ErrorBounds}
use Rattle.daa_margin.specs.MayViolate.{HoldsWithinNext, MayBeCoAltitude}
use Rattle.daa_margin.specs.Inside.Between.{HoldsBetween}
use Rattle.daa_margin.specs.Inside.Heights.{ComesDown, ComesUp}
use Rattle.daa_margin.proofs.Levels.{from_above, from_below, comes_down, comes_up}

pub in_order : (secs : ℕ) (n d : ℤ) → (n *ℤ d) ≤ℤ ((n +ℤ pos secs *ℤ d) *ℤ d)
in_order secs n d = by_rest _ _ _
    (let N = # 0 in let D = # 1 in let T = # 2 in ring (n ∷ d ∷ pos secs ∷ []) ((N ⊕ T ⊗ D) ⊗ D ⊖ N ⊗ D) (T ⊗ (D ⊗ D)) tt)
    (mul_nonneg (pos secs) _ (omega (arith, ints)) (square_nonneg d))

pub within_next : (secs : ℕ) (P : ℤ → ℤ → Type 0) (n d : ℤ) → HoldsBetween P n d (n +ℤ pos secs *ℤ d) d → HoldsWithinNext secs P n d
within_next secs P n d h = record { num = h.num; den = h.den; fraction = h.fraction; from = h.from; upto = h.upto; holds = h.holds }

pub as_between : (secs : ℕ) (P : ℤ → ℤ → Type 0) (n d : ℤ) → HoldsWithinNext secs P n d → HoldsBetween P n d (n +ℤ pos secs *ℤ d) d
as_between secs P n d h = record { num = h.num; den = h.den; fraction = h.fraction; from = h.from; upto = h.upto; holds = h.holds }

module _ (leg : Leg) (volume : Volume) (bounds : ErrorBounds) (n d : ℤ) (n0 : pos 0 ≤ℤ n) (d1 : pos 1 ≤ℤ d) where
  abbrev m : ℤ
  m = n +ℤ pos volume.tcoa *ℤ d

  m0 : pos 0 ≤ℤ m
  m0 = sum_nonneg _ _ n0 (mul_nonneg (pos volume.tcoa) d (omega (arith, ints)) (omega (arith, ints)))

  h0 : pos 0 ≤ℤ pos bounds.height
  h0 = omega (arith, ints)

  c0 : pos 0 ≤ℤ pos bounds.climb
  c0 = omega (arith, ints)

  abbrev Level : Type 0
  Level = MayBeCoAltitude leg volume bounds n d ⊎ (ComesDown leg bounds n d m d ⊎ ComesUp leg bounds n d m d)

  levels : Level → HoldsWithinNext volume.tcoa (MayBeCoAltitude leg volume bounds) n d
  levels (inl now) = record { num = n; den = d; fraction = d1; from = omega (arith, ints); upto = in_order volume.tcoa n d; holds = now }
  levels (inr (inl down)) = within_next volume.tcoa (MayBeCoAltitude leg volume bounds) n d
      (from_above n d m d n0 d1 m0 d1 (in_order volume.tcoa n d) leg.place.up leg.velocity.up (pos bounds.height) (pos bounds.climb) h0 c0 down.begins down.ends)
  levels (inr (inr up)) = within_next volume.tcoa (MayBeCoAltitude leg volume bounds) n d
      (from_below n d m d n0 d1 m0 d1 (in_order volume.tcoa n d) leg.place.up leg.velocity.up (pos bounds.height) (pos bounds.climb) h0 c0 up.begins up.ends)

  levelled : HoldsWithinNext volume.tcoa (MayBeCoAltitude leg volume bounds) n d → Level
  levelled h = by_lt_z (height_at leg n d) (pos 0)
      (λ below. ⊎_elim inl (λ k. inr (inr (record { begins = down (height_at leg n d) below; ends = k })))
      (comes_up n d m d n0 d1 m0 d1 (in_order volume.tcoa n d) leg.place.up leg.velocity.up (pos bounds.height) (pos bounds.climb) h0 c0
      (as_between volume.tcoa (MayBeCoAltitude leg volume bounds) n d h) (down (height_at leg n d) below)))
      (λ above. ⊎_elim inl (λ k. inr (inl (record { begins = above; ends = k })))
      (comes_down n d m d n0 d1 m0 d1 (in_order volume.tcoa n d) leg.place.up leg.velocity.up (pos bounds.height) (pos bounds.climb) h0 c0
      (as_between volume.tcoa (MayBeCoAltitude leg volume bounds) n d h) above))
    where
      down : (x : ℤ) → x <ℤ pos 0 → x ≤ℤ pos 0
      down x h = omega (arith, ints)

  pub level_is : Level ↔ HoldsWithinNext volume.tcoa (MayBeCoAltitude leg volume bounds) n d
  level_is = (levels, levelled)
