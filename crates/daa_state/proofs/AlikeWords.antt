-- What holds of the reports of a word: of an ownship's without an error, and of an aircraft's of age 0 without an error.
use Rattle.std.proofs.Common.{ℕ, ◌∷◌, [], ◌==◌, ◌≡◌, false, List, length}
use Rattle.std.specs.Prelude.{IfOk, nat_le, slice_index, codes, if◌then◌else◌}
use Rattle.std.specs.Str.{bytes_eq}
use Rattle.std.specs.Str.Lines.{strip_carriage_return}
use Rattle.daa_state.specs.Alike.{OfWord}
use Rattle.daa_state.specs.Bounds.{no_error}
use Rattle.daa_state.specs.Fields.{fields_of}
use Rattle.daa_state.specs.Inside.Texts.{Bytes}
use Rattle.daa_state.specs.Number.{count_in}
use Rattle.daa_state.specs.Ranges.{Bounds, formats, times}
use Rattle.daa_state.specs.WordOf.{word_of, word_of_fields, number_word, own_of, ownship, traffic_of, aged_traffic_of, aircraft, end_of}
use Rattle.daa_state.specs.declared.word.ReportBounds.{ReportBounds}
use Rattle.daa_state.specs.declared.word.Traffic.{Traffic}
use Rattle.daa_state.specs.declared.word.Word.{Word}
use Rattle.daa_state.specs.declared.word.Word.TheVariants as says
use Rattle.daa_state.proofs.CheckedLemmas.{IfOk-with, IfOk-if, IfOk-any}

module _ (Own : ReportBounds → Type 0) (Of : Traffic → Type 0) (none : Own no_error)
    (seen : (id x y alt vx vy vs : Bytes) → IfOk (aircraft id x y alt vx vy vs) Of) where
  number_word-alike : (range : Bounds) (word : ℕ → Word) (fields : List Bytes) → ((n : ℕ) → OfWord Own Of (word n)) → IfOk (number_word range word fields) (OfWord Own Of)
  unfolding number_word
  number_word-alike range word [] h = tt
  number_word-alike range word (a ∷ []) h = IfOk-any (OfWord Own Of) (count_in range a) _ h
  number_word-alike range word (a ∷ b ∷ fields) h = tt

  own_of-alike : (fields : List Bytes) → IfOk (own_of fields) (OfWord Own Of)
  unfolding own_of
  own_of-alike (x ∷ y ∷ alt ∷ trk ∷ gs ∷ vs ∷ []) = IfOk-any (OfWord Own Of) (ownship x y alt trk gs vs) _ (λ own. none)
  own_of-alike _ = tt

  pub traffic_of-alike : (fields : List Bytes) → IfOk (traffic_of fields) (OfWord Own Of)
  unfolding traffic_of
  traffic_of-alike (a ∷ b ∷ c ∷ d ∷ e ∷ f ∷ g ∷ []) =
      IfOk-with Of (OfWord Own Of) (aircraft a b c d e f g) _ (seen a b c d e f g) (λ traffic h. h)
  traffic_of-alike _ = tt

  end_of-alike : (fields : List Bytes) → IfOk (end_of fields) (OfWord Own Of)
  unfolding end_of
  end_of-alike [] = tt
  end_of-alike (a ∷ fields) = tt

  word_of_fields-alike : (format : ℕ) (fields : List Bytes) → (format == 3) ≡ false
      → ((parts : List Bytes) → IfOk (if format == 2 then aged_traffic_of parts else traffic_of parts) (OfWord Own Of))
      → IfOk (word_of_fields format fields) (OfWord Own Of)
  unfolding word_of_fields
  word_of_fields-alike format [] other traffic = tt
  word_of_fields-alike format (name ∷ fields) other traffic =
      rw other (
      IfOk-if _ (slice_index name 0 == 35) _ _ tt (
      IfOk-if _ (bytes_eq name (codes "moment")) _ _ (number_word-alike times says.Moment fields (λ n. tt)) (
      IfOk-if _ (bytes_eq name (codes "own")) _ _ (own_of-alike fields) (
      IfOk-if _ (bytes_eq name (codes "traffic")) _ _ (traffic fields) (
      IfOk-if _ (bytes_eq name (codes "format")) _ _ (number_word-alike formats says.Format fields (λ n. tt)) (
      IfOk-if _ (bytes_eq name (codes "end")) _ _ (end_of-alike fields) tt))))))

  pub word_of-alike : (format : ℕ) (line : Bytes) → (format == 3) ≡ false
      → ((parts : List Bytes) → IfOk (if format == 2 then aged_traffic_of parts else traffic_of parts) (OfWord Own Of))
      → IfOk (word_of line format) (OfWord Own Of)
  unfolding word_of
  word_of-alike format line other traffic =
      IfOk-if _ (nat_le (length line) 255) _ _ (word_of_fields-alike format (fields_of (strip_carriage_return line)) other traffic) tt
