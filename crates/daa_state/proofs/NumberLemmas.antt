-- The number that a field spells, from its sign and its digits.
use Rattle.std.proofs.Common.{ℕ, ℤ, ◌≡◌, ◌==◌, ◌||◌, Bool, true, false, [], ◌∷◌, pos, Ok, Err, refl}
use Rattle.std.specs.Prelude.{neg_ℤ, if◌then◌else◌}
use Rattle.daa_state.specs.Fault.{Checked, checked_map}
use Rattle.daa_state.specs.Inside.Texts.{Bytes}
use Rattle.daa_state.specs.Inside.Number.{has_minus, digits_of_field, are_digits, size_of_digits}
use Rattle.daa_state.specs.Number.{number_of_digits, number}
use Rattle.daa_state.specs.declared.fault.LineFault.TheVariants.{BadNumber}

abbrev pub signed : Bool → ℕ → ℤ
signed true size = neg_ℤ (pos size)
signed false size = pos size

-- the number of these digits, below 0 where there is a minus
abbrev pub spelled_by : Bool → Bytes → Checked ℤ
spelled_by minus digits = if are_digits digits then Ok (signed minus (size_of_digits digits)) else Err BadNumber

by_test : (change : ℕ → ℤ) (size : ℕ) (test : Bool) → checked_map change (if test then Ok size else Err BadNumber) ≡ (if test then Ok (change size) else Err BadNumber)
by_test change size true = refl
by_test change size false = refl

below : (digits : Bytes) → checked_map (λ size. neg_ℤ (pos size)) (number_of_digits digits) ≡ spelled_by true digits
below digits = by_test (λ size. neg_ℤ (pos size)) (size_of_digits digits) (are_digits digits)

above : (digits : Bytes) → checked_map pos (number_of_digits digits) ≡ spelled_by false digits
above digits = by_test (λ size. pos size) (size_of_digits digits) (are_digits digits)

by_sign : (minus plus : Bool) (digits field : Bytes) →
    (if minus then checked_map (λ size. neg_ℤ (pos size)) (number_of_digits digits) else checked_map pos (number_of_digits (if plus then digits else field)))
    ≡ spelled_by minus (if plus || minus then digits else field)
by_sign true true digits field = below digits
by_sign true false digits field = below digits
by_sign false true digits field = above digits
by_sign false false digits field = above field

pub number_is : (field : Bytes) → number field ≡ spelled_by (has_minus field) (digits_of_field field)
unfolding number
number_is [] = refl
number_is (byte ∷ digits) = by_sign (byte == 45) (byte == 43) digits (byte ∷ digits)
