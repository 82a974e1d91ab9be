-- Lines without the word `format`, and words that leave the format.
use Rattle.std.proofs.Common.{ℕ, ◌≡◌, ◌∷◌, [], ◌==◌, false, List, refl}
use Rattle.std.specs.Prelude.{IfOk, nat_le, length, slice_index, codes}
use Rattle.std.specs.Str.{bytes_eq}
use Rattle.std.specs.Str.Lines.{strip_carriage_return}
use Rattle.daa_state.specs.Fault.{Checked}
use Rattle.daa_state.specs.Fields.{fields_of}
use Rattle.daa_state.specs.Inside.Texts.{Bytes}
use Rattle.daa_state.specs.FourWords.{begins_with_format, four_word_of_fields, four_word_of}
use Rattle.daa_state.specs.Laws.{is_format_word, OnlyFormatLinesSayFormats, ReadsAsFourWords, OtherWordsLeaveTheFormat}
use Rattle.daa_state.specs.Number.{count_in}
use Rattle.daa_state.specs.Ranges.{ages, times}
use Rattle.daa_state.specs.MomentStep.{step, begun_moment, with_own, with_traffic, ended_picture}
use Rattle.daa_state.specs.WordOf.{word_of, word_of_fields, number_word, own_of, bounded_own_of, ownship, report_bounds, traffic_of, aged_traffic_of, bounded_traffic_of, aircraft, end_of}
use Rattle.daa_state.specs.declared.word.Word.{Word}
use Rattle.daa_state.specs.declared.word.Word.TheVariants as says
use Rattle.daa_state.proofs.CheckedLemmas.{IfOk-any, IfOk-if}

abbrev SaysNoFormat : Checked Word → Type 0
SaysNoFormat said = IfOk said (λ word. is_format_word word ≡ false)

moment-none : (fields : List Bytes) → SaysNoFormat (number_word times says.Moment fields)
unfolding number_word
moment-none [] = tt
moment-none (a ∷ []) = IfOk-any _ (count_in times a) _ (λ time. refl)
moment-none (a ∷ b ∷ fields) = tt

own_of-none : (fields : List Bytes) → SaysNoFormat (own_of fields)
unfolding own_of
own_of-none (x ∷ y ∷ alt ∷ trk ∷ gs ∷ vs ∷ []) = IfOk-any _ (ownship x y alt trk gs vs) _ (λ own. refl)
own_of-none _ = tt

bounded_own_of-none : (fields : List Bytes) → SaysNoFormat (bounded_own_of fields)
unfolding bounded_own_of
bounded_own_of-none (x ∷ y ∷ alt ∷ trk ∷ gs ∷ vs ∷ p ∷ v ∷ s ∷ w ∷ []) =
    IfOk-any _ (ownship x y alt trk gs vs) _ (λ own. IfOk-any _ (report_bounds p v s w) _ (λ bounds. refl))
bounded_own_of-none _ = tt

traffic_of-none : (fields : List Bytes) → SaysNoFormat (traffic_of fields)
unfolding traffic_of
traffic_of-none (a ∷ b ∷ c ∷ d ∷ e ∷ f ∷ g ∷ []) = IfOk-any _ (aircraft a b c d e f g) _ (λ traffic. refl)
traffic_of-none _ = tt

aged_traffic_of-none : (fields : List Bytes) → SaysNoFormat (aged_traffic_of fields)
unfolding aged_traffic_of
aged_traffic_of-none (a ∷ b ∷ c ∷ d ∷ e ∷ f ∷ g ∷ h ∷ []) =
    IfOk-any _ (aircraft a b c d e f g) _ (λ traffic. IfOk-any _ (count_in ages h) _ (λ seconds. refl))
aged_traffic_of-none _ = tt

bounded_traffic_of-none : (fields : List Bytes) → SaysNoFormat (bounded_traffic_of fields)
unfolding bounded_traffic_of
bounded_traffic_of-none (a ∷ b ∷ c ∷ d ∷ e ∷ f ∷ g ∷ h ∷ p ∷ v ∷ s ∷ w ∷ []) =
    IfOk-any _ (aircraft a b c d e f g) _ (λ traffic. IfOk-any _ (count_in ages h) _ (λ seconds. IfOk-any _ (report_bounds p v s w) _ (λ bounds. refl)))
bounded_traffic_of-none _ = tt

end_of-none : (fields : List Bytes) → SaysNoFormat (end_of fields)
unfolding end_of
end_of-none [] = refl
end_of-none (a ∷ fields) = tt

word_of_fields-none : (format : ℕ) (fields : List Bytes) → begins_with_format fields ≡ false → SaysNoFormat (word_of_fields format fields)
unfolding word_of_fields
word_of_fields-none format [] h = refl
word_of_fields-none format (name ∷ fields) h =
    rw h (
    IfOk-if _ (slice_index name 0 == 35) _ _ refl (
    IfOk-if _ (bytes_eq name (codes "moment")) _ _ (moment-none fields) (
    IfOk-if _ (bytes_eq name (codes "own")) _ _
    (IfOk-if (λ word. is_format_word word ≡ false) (format == 3) _ _ (bounded_own_of-none fields) (own_of-none fields)) (
    IfOk-if _ (bytes_eq name (codes "traffic")) _ _
    (IfOk-if (λ word. is_format_word word ≡ false) (format == 3) _ _ (bounded_traffic_of-none fields)
    (IfOk-if (λ word. is_format_word word ≡ false) (format == 2) _ _ (aged_traffic_of-none fields) (traffic_of-none fields))) (
    IfOk-if _ (bytes_eq name (codes "end")) _ _ (end_of-none fields) tt)))))

pub only_format_lines_say_formats : OnlyFormatLinesSayFormats
unfolding word_of
only_format_lines_say_formats line format h =
    IfOk-if _ (nat_le (length line) 255) _ _ (word_of_fields-none format (fields_of (strip_carriage_return line)) h) tt

word_of_fields-four : (fields : List Bytes) → begins_with_format fields ≡ false → word_of_fields 1 fields ≡ four_word_of_fields fields
unfolding word_of_fields four_word_of_fields
word_of_fields-four [] h = refl
word_of_fields-four (name ∷ fields) h = rw h refl

pub word_of-four : ReadsAsFourWords
unfolding word_of four_word_of
word_of-four line h = rw (word_of_fields-four (fields_of (strip_carriage_return line)) h) refl

pub step-format : OtherWordsLeaveTheFormat
unfolding step
step-format state (says.Moment time) h = IfOk-any _ (begun_moment state.moment state.last time) _ (λ moment. refl)
step-format state (says.Own own bounds) h = IfOk-any _ (with_own state.moment own bounds) _ (λ moment. refl)
step-format state (says.Traffic traffic) h = IfOk-any _ (with_traffic state.moment traffic) _ (λ moment. refl)
step-format state (says.Format format) h = absurd (cc)
step-format state says.End h = IfOk-any _ (ended_picture state.moment) _ (λ picture. refl)
step-format state says.Skip h = refl
