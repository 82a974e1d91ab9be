-- The parts of a field that spells a number, as the private functions read them.
use Rattle.std.specs.Prelude.{ℕ, ◌-◌, Bool, false, [], ◌∷◌, length, map, ◌==◌, ◌&&◌, ◌||◌, nat_le, if◌then◌else◌}
use Rattle.std.specs.List.{list_all}
use Rattle.std.specs.Char.{is_ascii_digit}
use Rattle.std.specs.Int.Digits.{number_from_digits}
use Rattle.daa_state.specs.Inside.Texts.{Bytes}

-- whether a minus is in front
abbrev pub has_minus : Bytes → Bool
has_minus [] = false
has_minus (byte ∷ bytes) = byte == 45

-- the field without a sign in front
abbrev pub digits_of_field : Bytes → Bytes
digits_of_field [] = []
digits_of_field (byte ∷ bytes) = if byte == 43 || byte == 45 then bytes else byte ∷ bytes

-- 1 to 10 digits
abbrev pub are_digits : Bytes → Bool
are_digits digits = nat_le 1 (length digits) && nat_le (length digits) 10 && list_all is_ascii_digit digits

-- the number that digits write
abbrev pub size_of_digits : Bytes → ℕ
size_of_digits digits = number_from_digits 10 (map (λ digit. digit - 48) digits)
