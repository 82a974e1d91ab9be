-- With no time thresholds a volume is the cylinder.
use Rattle.std.proofs.Common.{◌≡◌, ◌↔◌, inl, inr, ℤ, pos, ◌≤ℤ◌, ◌*ℤ◌, ◌+ℤ◌, ℕ, unsigned_abs, arith}
use Rattle.std.proofs.lemmas.Int.{ints}
use Rattle.daa_fixed.specs.declared.Leg.{Leg}
use Rattle.daa_fixed.specs.Flat.{dot_of, square_of}
use Rattle.daa_fixed.proofs.Ring.{mul_nonneg}
use Rattle.daa_taumod.specs.declared.Model.TheVariants.{Taumod}
use Rattle.daa_taumod.specs.declared.Volume.{Volume}
use Rattle.daa_taumod.specs.Volume.{place_at, height_at, ViolatesHorizontally, ViolatesVertically, Violates}

-- nothing times anything is nothing
no_part : (d x : ℤ) → (pos 0 *ℤ d *ℤ x) ≡ pos 0
no_part d x = grind (arith, ints)

far : (a d x b : ℤ) → (a +ℤ pos 0 *ℤ d *ℤ x) ≤ℤ b → a ≤ℤ b
far a d x b h = let e = no_part d x in omega (arith, ints, e, h)

high : (a d x b : ℤ) → a ≤ℤ (pos 0 *ℤ d *ℤ x) → pos 0 ≤ℤ b → a ≤ℤ b
high a d x b h k = let e = no_part d x in omega (arith, ints, e, h, k)

module _ (leg : Leg) (dthr zthr : ℕ) (n d : ℤ) (one : pos 1 ≤ℤ d) where
  abbrev volume : Volume
  volume = record { dthr = dthr; zthr = zthr; tthr = 0; tcoa = 0; model = Taumod }

  horizontally : ViolatesHorizontally leg volume n d → dot_of (place_at leg n d) (place_at leg n d) ≤ℤ square_of (pos dthr *ℤ d)
  horizontally (inl near) = near
  horizontally (inr closing) = far _ d _ _ closing.soon

  vertically : ViolatesVertically leg volume n d → pos (unsigned_abs (height_at leg n d)) ≤ℤ (pos zthr *ℤ d)
  vertically (inl near) = near
  vertically (inr soon) = high _ d _ _ soon.soon (mul_nonneg (pos zthr) d (omega (arith, ints)) (omega (arith, ints, one)))

  pub cylinder : Violates leg volume n d ↔ ((dot_of (place_at leg n d) (place_at leg n d) ≤ℤ square_of (pos dthr *ℤ d)) × (pos (unsigned_abs (height_at leg n d)) ≤ℤ (pos zthr *ℤ d)))
  cylinder = (
    (λ v. (horizontally v.horizontal, vertically v.vertical)),
    (λ h. record { horizontal = inl h.0; vertical = inl h.1 }),
  )
