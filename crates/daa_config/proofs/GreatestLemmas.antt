-- The greatest level at which something holds.
use Rattle.std.proofs.Common.{◌≡◌, ℕ, ⊎_elim, arith}
use Rattle.std.proofs.lemmas.Bool.{cases_lt}
use Rattle.daa_fixed.specs.Mask.{IsGreatestLevel}

-- there is one
pub greatest_once : (Holds : ℕ → Type 0) (top l m : ℕ) → IsGreatestLevel Holds top l → IsGreatestLevel Holds top m → l ≡ m
greatest_once Holds top l m h k = ⊎_elim
    (λ lt. absurd (h.none_above m lt k.within (k.holds (omega (arith, lt)))))
    (λ ge. ⊎_elim
    (λ gt. absurd (k.none_above l gt h.within (h.holds (omega (arith, gt)))))
    (λ le. omega (arith, ge, le))
    (cases_lt m l))
    (cases_lt l m)
