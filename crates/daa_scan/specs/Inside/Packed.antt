-- No word of a unit is 0.
use Rattle.std.specs.Prelude.{◌≢◌, ℕ, zero, suc, ◌*◌, length}
use Rattle.std.proofs.Common.{arith}
use Rattle.daa_scan.specs.SceneState.{SceneState}
use Rattle.daa_schedule.specs.Answers.{AreAnswers}
use Rattle.daa_scan.specs.Units.{group_count}
use Rattle.daa_scan.specs.Packed.{places_in_reach, at_least_one, word_of, values_from, words_of}

-- no word is 0
pub one_at_least : (n : ℕ) → at_least_one n ≢ 0
one_at_least zero = λ e. cc e
one_at_least (suc n) = λ e. cc e

-- no word from a unit on is 0
pub values_real : (s : SceneState) (i n : ℕ) → AreAnswers (values_from (word_of s) i n)
unfolding values_from word_of
values_real s i zero k d h = absurd (omega (arith, h))
values_real s i (suc n) zero d h = one_at_least _
values_real s i (suc n) (suc k) d h = values_real s (suc i) n k d (omega (arith, h))

-- no word is 0
pub words_real : (s : SceneState) → AreAnswers (words_of s)
unfolding words_of
words_real s = values_real s 0 (group_count s.settings * length (places_in_reach s))
