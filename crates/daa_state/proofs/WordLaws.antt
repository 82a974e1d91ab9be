-- The word of a line that is known by its first 256 bytes.
use Rattle.std.proofs.Common.{ℕ, ◌≡◌, ◌≤◌, false, length, take, refl, ap, Err, inl, inr, arith}
use Rattle.std.proofs.lemmas.List.{take_all, length-take-le}
use Rattle.std.proofs.lemmas.Bool.{cases_lt}
use Rattle.std.proofs.lemmas.Bool.Decides.{nat_tests}
use Rattle.std.specs.Prelude.{nat_le}
use Rattle.daa_state.specs.Inside.Texts.{Bytes}
use Rattle.daa_state.specs.WordOf.{word_of}
use Rattle.daa_state.specs.declared.fault.LineFault.TheVariants.{LongLine}

long_line : (format : ℕ) (line other : Bytes) → nat_le (length line) 255 ≡ false → nat_le (length other) 255 ≡ false → word_of line format ≡ word_of other format
unfolding word_of
long_line format line other h k = rw (h, k) refl

-- a long line has the word of its first 256 bytes
pub word_of-take : (format : ℕ) (line : Bytes) → word_of (take 256 line) format ≡ word_of line format
word_of-take format line = elim (cases_lt (length line) 256) [
  | inl short ↦ ap (λ (l : Bytes). word_of l format) (take_all 256 line (omega arith))
  | inr long ↦
      let size : length (take 256 line) ≡ 256 = length-take-le 256 line long in
      long_line format (take 256 line) line (grind (arith, nat_tests)) (grind (arith, nat_tests))
]

pub word_of-long : (format : ℕ) (line : Bytes) → 256 ≤ length line → word_of line format ≡ Err LongLine
unfolding word_of
word_of-long format line h =
    let no : nat_le (length line) 255 ≡ false = grind (arith, nat_tests) in
    rw no refl
