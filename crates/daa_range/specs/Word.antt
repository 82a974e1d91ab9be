-- How a range is packed in a word of 64 bits.
use Rattle.std.specs.Prelude.{ℕ, ◌+◌, ◌*◌, ◌/◌, ◌%◌, ◌^◌, ◌≤◌, nat_le, if◌then◌else◌}
use Rattle.daa_range.specs.Range.{RangeState, range_of}

-- `first` is in the upper 32 bits, and `upto` in the lower 32
abbrev pub packed : RangeState → ℕ
packed range = range.first * 2 ^ 32 + range.upto

-- the upper 32 bits of a word
abbrev pub first_part : ℕ → ℕ
first_part word = word / 2 ^ 32

-- the lower 32 bits of a word
abbrev pub upto_part : ℕ → ℕ
upto_part word = word % 2 ^ 32

-- the range in the word does not end before it begins
abbrev pub IsInOrder : ℕ → Type 0
IsInOrder word = first_part word ≤ upto_part word

-- the range of a word. Parts that are not in order are read as no units, at the first part
abbrev pub unpacked : ℕ → RangeState
unpacked word =
    if nat_le (first_part word) (upto_part word) then range_of (first_part word) (upto_part word)
    else range_of (first_part word) (first_part word)
