-- The word of a line, from its first fields.
use Rattle.std.proofs.Common.{ℕ, ◌≡◌, ◌≤◌, ◌∷◌, [], true, List, length, take, refl, arith, Bor, get_or, Ok}
use Rattle.std.proofs.lemmas.Bool.Decides.{nat_tests}
use Rattle.std.specs.Prelude.{nat_le}
use Rattle.std.specs.Str.Lines.{strip_carriage_return}
use Rattle.daa_state.specs.Fault.{◌>>=◌}
use Rattle.daa_state.specs.declared.word.Word.TheVariants as says
use Rattle.daa_state.specs.Bounds.{no_error}
use Rattle.daa_state.specs.Fields.{fields_of}
use Rattle.daa_state.specs.Inside.Texts.{Bytes, texts}
use Rattle.daa_state.specs.Number.{count_in}
use Rattle.daa_state.specs.Ranges.{ages}
use Rattle.daa_state.specs.WordOf.{word_of, word_of_fields, number_word, own_of, bounded_own_of, ownship, report_bounds, traffic_of, aged_traffic_of, bounded_traffic_of, aircraft, end_of}

-- no word takes more than twelve fields after its name, so fourteen show how many there are
pub fourteen_are_enough : (format : ℕ) (fields : List Bytes) → word_of_fields format (take 14 fields) ≡ word_of_fields format fields
unfolding word_of_fields number_word own_of bounded_own_of traffic_of aged_traffic_of bounded_traffic_of end_of
fourteen_are_enough format [] = refl
fourteen_are_enough format (a ∷ []) = refl
fourteen_are_enough format (a ∷ b ∷ []) = refl
fourteen_are_enough format (a ∷ b ∷ c ∷ []) = refl
fourteen_are_enough format (a ∷ b ∷ c ∷ d ∷ []) = refl
fourteen_are_enough format (a ∷ b ∷ c ∷ d ∷ e ∷ []) = refl
fourteen_are_enough format (a ∷ b ∷ c ∷ d ∷ e ∷ f ∷ []) = refl
fourteen_are_enough format (a ∷ b ∷ c ∷ d ∷ e ∷ f ∷ g ∷ []) = refl
fourteen_are_enough format (a ∷ b ∷ c ∷ d ∷ e ∷ f ∷ g ∷ h ∷ []) = refl
fourteen_are_enough format (a ∷ b ∷ c ∷ d ∷ e ∷ f ∷ g ∷ h ∷ i ∷ []) = refl
fourteen_are_enough format (a ∷ b ∷ c ∷ d ∷ e ∷ f ∷ g ∷ h ∷ i ∷ j ∷ []) = refl
fourteen_are_enough format (a ∷ b ∷ c ∷ d ∷ e ∷ f ∷ g ∷ h ∷ i ∷ j ∷ k ∷ []) = refl
fourteen_are_enough format (a ∷ b ∷ c ∷ d ∷ e ∷ f ∷ g ∷ h ∷ i ∷ j ∷ k ∷ l ∷ []) = refl
fourteen_are_enough format (a ∷ b ∷ c ∷ d ∷ e ∷ f ∷ g ∷ h ∷ i ∷ j ∷ k ∷ l ∷ m ∷ []) = refl
fourteen_are_enough format (a ∷ b ∷ c ∷ d ∷ e ∷ f ∷ g ∷ h ∷ i ∷ j ∷ k ∷ l ∷ m ∷ n ∷ fields) = refl

pub short_line : (format : ℕ) (line : Bytes) → length line ≤ 255 → word_of line format ≡ word_of_fields format (fields_of (strip_carriage_return line))
unfolding word_of
short_line format line h =
    let yes : nat_le (length line) 255 ≡ true = grind (arith, nat_tests) in
    rw yes refl

pub traffic_of-seven : (fields : List (Bor Bytes)) (blank : Bor Bytes) → length fields ≡ 7
    → traffic_of (texts fields) ≡ (aircraft (get_or fields 0 blank).now (get_or fields 1 blank).now (get_or fields 2 blank).now
    (get_or fields 3 blank).now (get_or fields 4 blank).now (get_or fields 5 blank).now (get_or fields 6 blank).now
    >>= λ traffic. Ok (says.Traffic traffic))
unfolding traffic_of
traffic_of-seven [] blank h = absurd (omega arith)
traffic_of-seven (a ∷ []) blank h = absurd (omega arith)
traffic_of-seven (a ∷ b ∷ []) blank h = absurd (omega arith)
traffic_of-seven (a ∷ b ∷ c ∷ []) blank h = absurd (omega arith)
traffic_of-seven (a ∷ b ∷ c ∷ d ∷ []) blank h = absurd (omega arith)
traffic_of-seven (a ∷ b ∷ c ∷ d ∷ e ∷ []) blank h = absurd (omega arith)
traffic_of-seven (a ∷ b ∷ c ∷ d ∷ e ∷ f ∷ []) blank h = absurd (omega arith)
traffic_of-seven (a ∷ b ∷ c ∷ d ∷ e ∷ f ∷ g ∷ []) blank h = refl
traffic_of-seven (a ∷ b ∷ c ∷ d ∷ e ∷ f ∷ g ∷ i ∷ fields) blank h = absurd (omega arith)

pub aged_traffic_of-eight : (fields : List (Bor Bytes)) (blank : Bor Bytes) → length fields ≡ 8
    → aged_traffic_of (texts fields) ≡ (aircraft (get_or fields 0 blank).now (get_or fields 1 blank).now (get_or fields 2 blank).now
    (get_or fields 3 blank).now (get_or fields 4 blank).now (get_or fields 5 blank).now (get_or fields 6 blank).now
    >>= λ traffic. count_in ages (get_or fields 7 blank).now >>= λ seconds. Ok (says.Traffic (record traffic { age = seconds })))
unfolding aged_traffic_of
aged_traffic_of-eight [] blank h = absurd (omega arith)
aged_traffic_of-eight (a ∷ []) blank h = absurd (omega arith)
aged_traffic_of-eight (a ∷ b ∷ []) blank h = absurd (omega arith)
aged_traffic_of-eight (a ∷ b ∷ c ∷ []) blank h = absurd (omega arith)
aged_traffic_of-eight (a ∷ b ∷ c ∷ d ∷ []) blank h = absurd (omega arith)
aged_traffic_of-eight (a ∷ b ∷ c ∷ d ∷ e ∷ []) blank h = absurd (omega arith)
aged_traffic_of-eight (a ∷ b ∷ c ∷ d ∷ e ∷ f ∷ []) blank h = absurd (omega arith)
aged_traffic_of-eight (a ∷ b ∷ c ∷ d ∷ e ∷ f ∷ g ∷ []) blank h = absurd (omega arith)
aged_traffic_of-eight (a ∷ b ∷ c ∷ d ∷ e ∷ f ∷ g ∷ i ∷ []) blank h = refl
aged_traffic_of-eight (a ∷ b ∷ c ∷ d ∷ e ∷ f ∷ g ∷ i ∷ j ∷ fields) blank h = absurd (omega arith)

pub bounded_own_of-ten : (fields : List (Bor Bytes)) (blank : Bor Bytes) → length fields ≡ 10
    → bounded_own_of (texts fields) ≡ (ownship (get_or fields 0 blank).now (get_or fields 1 blank).now (get_or fields 2 blank).now
    (get_or fields 3 blank).now (get_or fields 4 blank).now (get_or fields 5 blank).now
    >>= λ own. report_bounds (get_or fields 6 blank).now (get_or fields 7 blank).now (get_or fields 8 blank).now (get_or fields 9 blank).now
    >>= λ bounds. Ok (says.Own own bounds))
unfolding bounded_own_of
bounded_own_of-ten [] blank is = absurd (omega arith)
bounded_own_of-ten (a ∷ []) blank is = absurd (omega arith)
bounded_own_of-ten (a ∷ b ∷ []) blank is = absurd (omega arith)
bounded_own_of-ten (a ∷ b ∷ c ∷ []) blank is = absurd (omega arith)
bounded_own_of-ten (a ∷ b ∷ c ∷ d ∷ []) blank is = absurd (omega arith)
bounded_own_of-ten (a ∷ b ∷ c ∷ d ∷ e ∷ []) blank is = absurd (omega arith)
bounded_own_of-ten (a ∷ b ∷ c ∷ d ∷ e ∷ f ∷ []) blank is = absurd (omega arith)
bounded_own_of-ten (a ∷ b ∷ c ∷ d ∷ e ∷ f ∷ g ∷ []) blank is = absurd (omega arith)
bounded_own_of-ten (a ∷ b ∷ c ∷ d ∷ e ∷ f ∷ g ∷ h ∷ []) blank is = absurd (omega arith)
bounded_own_of-ten (a ∷ b ∷ c ∷ d ∷ e ∷ f ∷ g ∷ h ∷ i ∷ []) blank is = absurd (omega arith)
bounded_own_of-ten (a ∷ b ∷ c ∷ d ∷ e ∷ f ∷ g ∷ h ∷ i ∷ j ∷ []) blank is = refl
bounded_own_of-ten (a ∷ b ∷ c ∷ d ∷ e ∷ f ∷ g ∷ h ∷ i ∷ j ∷ k ∷ fields) blank is = absurd (omega arith)

pub bounded_traffic_of-twelve : (fields : List (Bor Bytes)) (blank : Bor Bytes) → length fields ≡ 12
    → bounded_traffic_of (texts fields) ≡ (aircraft (get_or fields 0 blank).now (get_or fields 1 blank).now (get_or fields 2 blank).now
    (get_or fields 3 blank).now (get_or fields 4 blank).now (get_or fields 5 blank).now (get_or fields 6 blank).now
    >>= λ traffic. count_in ages (get_or fields 7 blank).now
    >>= λ seconds. report_bounds (get_or fields 8 blank).now (get_or fields 9 blank).now (get_or fields 10 blank).now (get_or fields 11 blank).now
    >>= λ bounds. Ok (says.Traffic (record traffic { age = seconds; bounds = record { own = no_error; aircraft = bounds } })))
unfolding bounded_traffic_of
bounded_traffic_of-twelve [] blank is = absurd (omega arith)
bounded_traffic_of-twelve (a ∷ []) blank is = absurd (omega arith)
bounded_traffic_of-twelve (a ∷ b ∷ []) blank is = absurd (omega arith)
bounded_traffic_of-twelve (a ∷ b ∷ c ∷ []) blank is = absurd (omega arith)
bounded_traffic_of-twelve (a ∷ b ∷ c ∷ d ∷ []) blank is = absurd (omega arith)
bounded_traffic_of-twelve (a ∷ b ∷ c ∷ d ∷ e ∷ []) blank is = absurd (omega arith)
bounded_traffic_of-twelve (a ∷ b ∷ c ∷ d ∷ e ∷ f ∷ []) blank is = absurd (omega arith)
bounded_traffic_of-twelve (a ∷ b ∷ c ∷ d ∷ e ∷ f ∷ g ∷ []) blank is = absurd (omega arith)
bounded_traffic_of-twelve (a ∷ b ∷ c ∷ d ∷ e ∷ f ∷ g ∷ h ∷ []) blank is = absurd (omega arith)
bounded_traffic_of-twelve (a ∷ b ∷ c ∷ d ∷ e ∷ f ∷ g ∷ h ∷ i ∷ []) blank is = absurd (omega arith)
bounded_traffic_of-twelve (a ∷ b ∷ c ∷ d ∷ e ∷ f ∷ g ∷ h ∷ i ∷ j ∷ []) blank is = absurd (omega arith)
bounded_traffic_of-twelve (a ∷ b ∷ c ∷ d ∷ e ∷ f ∷ g ∷ h ∷ i ∷ j ∷ k ∷ []) blank is = absurd (omega arith)
bounded_traffic_of-twelve (a ∷ b ∷ c ∷ d ∷ e ∷ f ∷ g ∷ h ∷ i ∷ j ∷ k ∷ l ∷ []) blank is = refl
bounded_traffic_of-twelve (a ∷ b ∷ c ∷ d ∷ e ∷ f ∷ g ∷ h ∷ i ∷ j ∷ k ∷ l ∷ m ∷ fields) blank is = absurd (omega arith)
