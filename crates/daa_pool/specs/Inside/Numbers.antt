-- The answers of the tests.
use Rattle.std.specs.Prelude.{ℕ, List}
use Rattle.std.specs.List.{range_with_len}
use Rattle.std.proofs.Common.{arith}
use Rattle.std.proofs.lemmas.List.FromFn.{length-range_with_len, get_or-range_with_len}
use Rattle.daa_schedule.specs.Answers.{AreAnswers}

-- the answer of unit u is 11 + u
abbrev pub numbers : ℕ → List ℕ
numbers units = range_with_len 11 units

-- none of these answers is 0
pub AreAnswers-numbers : (units : ℕ) → AreAnswers (numbers units)
AreAnswers-numbers units = λ unit default low zero.
    let long = length-range_with_len 11 units in let word = get_or-range_with_len 11 units unit default (omega arith) in absurd (omega arith)
