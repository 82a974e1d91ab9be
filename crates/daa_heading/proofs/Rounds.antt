-- Angles taken round the circle.
use Rattle.std.proofs.Common.{◌≡◌, ◌∙◌, ap, arith, lit<, refl, ℕ, ℤ, pos, negsuc, ◌+ℤ◌, ◌≤ℤ◌, ◌<ℤ◌, ◌<◌, sym}
use Rattle.std.specs.Int.{int_rem_euclid}
use Rattle.std.proofs.lemmas.Int.{ints, int_rem_euclid_is}

-- an angle within the circle
pub within_circle : (z : ℤ) → pos 0 ≤ℤ z → z <ℤ pos 360 → int_rem_euclid z (pos 360) ≡ z
within_circle (pos a) least most = int_rem_euclid_is (pos a) (pos 360) 360 0 a (lit< tt) refl (omega (arith, ints)) ∙ ap pos (omega (arith, ints, most))
within_circle (negsuc a) least most = absurd (omega (arith, ints, least))

-- an angle less than a circle below 0
pub below_circle : (z : ℤ) (m : ℕ) → z +ℤ pos 360 ≡ pos m → m < 360 → int_rem_euclid z (pos 360) ≡ z +ℤ pos 360
below_circle z m is most = int_rem_euclid_is z (pos 360) 360 1 m (lit< tt) refl (omega (arith, ints, is)) ∙ ap pos (omega (arith, most)) ∙ sym is
