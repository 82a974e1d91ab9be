-- Where no line's first field is `format`, the events are those of the four words.
use Rattle.std.proofs.Common.{ℕ, suc, ◌+◌, ◌≡◌, ◌∙◌, Bool, true, false, List, [], ◌∷◌, ◌++◌, refl, ap, arith, Ok, Err}
use Rattle.std.specs.Prelude.{All, IfOk}
use Rattle.daa_lines.specs.LinesOf.{Bytes, lines_of}
use Rattle.daa_state.specs.Fault.{Checked, ◌>>=◌}
use Rattle.daa_state.specs.WordOf.{word_of}
use Rattle.daa_state.specs.FourWords.{is_format_line}
use Rattle.daa_state.specs.Laws.{is_format_word}
use Rattle.daa_state.specs.MomentStep.{MomentsState, Stepped, start, step}
use Rattle.daa_state.specs.declared.word.Word.{Word}
use Rattle.daa_state.proofs.FormatLaws.{only_format_lines_say_formats, word_of-four, step-format}
use Rattle.daa_replay.specs.declared.lines.Event.{Event}
use Rattle.daa_replay.specs.Lines.{line_step, next_state, line_event, events_from, events_of}
use Rattle.daa_replay.specs.FourWordLines.{four_line_step, four_events_from, four_events_of, ReadsAsFourWords}

format_kept : (state : MomentsState) (word : Checked Word) → IfOk word (λ w. is_format_word w ≡ false)
    → (next_state state (word >>= step state)).format ≡ state.format
format_kept state (Err fault) h = refl
format_kept state (Ok word) h = go (step state word) (step-format state word h)
  where
    go : (next : Checked Stepped) → IfOk next (λ n. n.state.format ≡ state.format) → (next_state state next).format ≡ state.format
    go (Ok n) k = k
    go (Err fault) k = refl

same_from : (state : MomentsState) (number : ℕ) (ended : Bool) (lines : List Bytes) → state.format ≡ 1
    → All (λ line. is_format_line line ≡ false) lines
    → events_from state number ended lines ≡ four_events_from state number ended lines
same_from state number true [] one none = refl
same_from state number false [] one none = refl
same_from state number ended (line ∷ lines) one none =
    let no : is_format_line line ≡ false = none 0 line (omega arith) in
    let same : line_step state line ≡ four_line_step state line =
    ap (λ (w : Checked Word). w >>= step state) (ap (word_of line) one ∙ word_of-four line no) in
    let next = next_state state (line_step state line) in
    let kept : next.format ≡ 1 = format_kept state (word_of line state.format) (only_format_lines_say_formats line state.format no) ∙ one in
    ap (λ (es : List Event). line_event number (line_step state line) ++ es)
    (same_from next (number + 1) ended lines kept (λ k d l. none (suc k) d (omega arith)))
    ∙ ap (λ (s : Checked Stepped). line_event number s ++ four_events_from (next_state state s) (number + 1) ended lines) same

pub reads_as_four_words : ReadsAsFourWords
unfolding events_of four_events_of
reads_as_four_words bytes ended none = same_from start 1 ended (lines_of bytes ended) refl none
