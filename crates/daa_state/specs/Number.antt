-- Numbers in fields.
use Rattle.std.specs.Prelude.{ℕ, ℤ, List, pos, neg_ℤ, unsigned_abs, ◌-◌, length, map, drop, slice_index, ◌==◌, ◌&&◌, nat_le, int_le, Ok, Err, if◌then◌else◌}
use Rattle.std.specs.List.{list_all}
use Rattle.std.specs.Char.{is_ascii_digit}
use Rattle.std.specs.Int.Digits.{number_from_digits}
use Rattle.daa_state.specs.Fault.{Checked, ◌>>=◌, checked_map}
use Rattle.daa_state.specs.Ranges.{Bounds}
use Rattle.daa_state.specs.declared.fault.LineFault.TheVariants.{BadNumber, OutOfRange}

-- the number that the bytes write, if they are 1 to 10 digits (the digit 0 is 48)
abbrev pub number_of_digits : List ℕ → Checked ℕ
number_of_digits digits =
    if nat_le 1 (length digits) && nat_le (length digits) 10 && list_all is_ascii_digit digits
    then Ok (number_from_digits 10 (map (λ digit. digit - 48) digits))
    else Err BadNumber

-- the number that a field spells: a minus (45), a plus (43) or no sign, and 1 to 10 digits
unfoldable pub number : List ℕ → Checked ℤ
number field =
    if slice_index field 0 == 45 then checked_map (λ size. neg_ℤ (pos size)) (number_of_digits (drop 1 field))
    else checked_map pos (number_of_digits (if slice_index field 0 == 43 then drop 1 field else field))

-- the number of a range that a field spells: first its spelling is looked at, then its range
unfoldable pub number_in : Bounds → List ℕ → Checked ℤ
number_in range field = do
  n ← number field
  if int_le range.low n && int_le n range.high then Ok n else Err OutOfRange

-- the number that a field spells, as `number_in` reads it, of a range without numbers below 0
unfoldable pub count_in : Bounds → List ℕ → Checked ℕ
count_in range field = checked_map unsigned_abs (number_in range field)
