-- That modified tau may be at most tthr, by the roots that the code takes.
use Rattle.std.proofs.Common.{[], ◌∷◌, ◌≡◌, ◌↔◌, ◌≤◌, ◌*◌, ◌+◌, subst, arith, ℕ, ℤ, pos, ◌+ℤ◌, ◌*ℤ◌, ◌≤ℤ◌}
use Rattle.std.proofs.lemmas.Int.{ints}
use Rattle.daa_fixed.proofs.Ring.{mul_nonneg, square_nonneg}
use Rattle.daa_fixed.proofs.Integers.{sum_nonneg, le_trans_ℤ}
use Rattle.daa_fixed.proofs.Bounds.{within}
use Rattle.daa_fixed.proofs.LegSizes as size
use Rattle.daa_fixed.specs.Size.{IsWithin}
use Rattle.daa_fixed.specs.Flat.{dot_of, square_of}
use Rattle.daa_fixed.specs.Leg.{IsLegInRange}
use Rattle.daa_fixed.specs.declared.Leg.{Leg}
use Rattle.daa_taumod.specs.declared.Volume.{Volume}
use Rattle.daa_margin.specs.declared.ErrorBounds.{ErrorBounds}
use Rattle.daa_margin.specs.MayViolate.{IsRootAbove, MayBeSoon, square_within, twice_middle_at, twice_middle_error_at}
use Rattle.daa_margin.proofs.Growth.{room_of}
use Rattle.daa_margin.proofs.Roots.{one_root}
use Rattle.daa_margin.proofs.Sums.{len_nonneg}

module _ (leg : Leg) (volume : Volume) (bounds : ErrorBounds) (n d : ℤ) (speed reach : ℤ) where
  abbrev pub IsSoonBy : Type 0
  IsSoonBy = dot_of (twice_middle_at leg volume bounds n d) (twice_middle_at leg volume bounds n d)
      ≤ℤ room_of d (square_within leg volume bounds speed) reach (twice_middle_error_at leg volume bounds n d)

  -- what may be soon, is so by the roots that there are
  pub soon_is : IsRootAbove (dot_of leg.velocity.flat leg.velocity.flat) speed → IsRootAbove (square_within leg volume bounds speed) reach → IsSoonBy ↔ MayBeSoon leg volume bounds n d
  soon_is one other = (
    (λ h. record { speed = speed; reach = reach; speed_is = one; reach_is = other; soon = h }),
    (λ h.
        let e = one_root _ _ _ h.speed_is one in
        let here : IsRootAbove (square_within leg volume bounds speed) h.reach = subst (λ (z : ℤ). IsRootAbove (square_within leg volume bounds z) h.reach) e h.reach_is in
        subst (λ (z : ℤ). dot_of (twice_middle_at leg volume bounds n d) (twice_middle_at leg volume bounds n d)
        ≤ℤ room_of d (square_within leg volume bounds speed) z (twice_middle_error_at leg volume bounds n d)) (one_root _ _ _ here other)
        (subst (λ (z : ℤ). dot_of (twice_middle_at leg volume bounds n d) (twice_middle_at leg volume bounds n d)
        ≤ℤ room_of d (square_within leg volume bounds z) h.reach (twice_middle_error_at leg volume bounds n d)) e h.soon)),
  )

-- a root is no greater than one that is known
pub root_at_most : (m : ℕ) (z r : ℤ) → IsRootAbove z r → z ≤ℤ square_of (pos m) → IsWithin m r
root_at_most m z r h k = within m r (omega (arith, ints, h.from)) (h.least (pos m) (omega (arith, ints)) k)

-- the reported speed, rounded up
pub speed_at_most : (leg : Leg) (r : ℤ) → IsLegInRange leg → IsRootAbove (dot_of leg.velocity.flat leg.velocity.flat) r → IsWithin 60000 r
speed_at_most leg r in_range h = root_at_most 60000 _ r h (less _ (size.vv in_range))
  where
    less : (z : ℤ) → IsWithin 3200000000 z → z ≤ℤ square_of (pos 60000)
    less z k = omega (arith, ints, k.size)

pub square_within_nonneg : (leg : Leg) (volume : Volume) (bounds : ErrorBounds) (speed : ℤ) → pos 0 ≤ℤ speed → pos 0 ≤ℤ square_within leg volume bounds speed
square_within_nonneg leg volume bounds speed s0 = sum_nonneg _ _ (mul_nonneg (pos 4) _ (omega (arith, ints)) (square_nonneg (pos volume.dthr)))
    (mul_nonneg _ _ (square_nonneg (pos volume.tthr))
    (sum_nonneg _ _ (sum_nonneg _ _ (len_nonneg leg.velocity.flat.east leg.velocity.flat.north)
    (mul_nonneg _ _ (mul_nonneg (pos 2) speed (omega (arith, ints)) s0) (omega (arith, ints)))) (square_nonneg (pos bounds.speed))))
