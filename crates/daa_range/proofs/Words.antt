-- A range that is packed, and a word that is read.
use Rattle.std.proofs.Common.{◌≡◌, ℕ, ◌^◌, ◌<◌, arith}
use Rattle.std.proofs.lemmas.Bool.Decides.{nat_tests}
use Rattle.daa_range.specs.Range.{RangeState, range_of, IsOrdered}
use Rattle.daa_range.specs.Word.{packed, first_part, upto_part, IsInOrder, unpacked}

pub first_part-packed : (range : RangeState) → range.upto < 2 ^ 32 → first_part (packed range) ≡ range.first
first_part-packed range h = omega arith

pub upto_part-packed : (range : RangeState) → range.upto < 2 ^ 32 → upto_part (packed range) ≡ range.upto
upto_part-packed range h = omega arith

pub unpacked-packed : (range : RangeState) → IsOrdered range → range.upto < 2 ^ 32 → unpacked (packed range) ≡ range
unpacked-packed range order h = grind (arith, nat_tests)

pub packed-unpacked : (word : ℕ) → IsInOrder word → packed (unpacked word) ≡ word
packed-unpacked word h = grind (arith, nat_tests)

-- what is read of any word is in order
pub IsOrdered-unpacked : (word : ℕ) → IsOrdered (unpacked word)
IsOrdered-unpacked word = grind (arith, nat_tests)

pub unpacked-in_order : (word : ℕ) → IsInOrder word → unpacked word ≡ range_of (first_part word) (upto_part word)
unpacked-in_order word h = grind (arith, nat_tests)
