-- Where no line's first field is `format`, the reports of the aircraft are of the moment itself.
use Rattle.std.proofs.Common.{ℕ, ◌≡◌, ◌∙◌, false, Ok, Err, refl, subst, sym}
use Rattle.std.specs.Prelude.{IfOk}
use Rattle.daa_lines.specs.LinesOf.{Bytes, lines_of}
use Rattle.daa_state.specs.Current.{IsCurrentWord, IsCurrentState, IsCurrentPicture, IsCurrentStep}
use Rattle.daa_state.specs.Fault.{Checked, ◌>>=◌}
use Rattle.daa_state.specs.FourWords.{is_format_line}
use Rattle.daa_state.specs.Laws.{is_format_word}
use Rattle.daa_state.specs.MomentStep.{MomentsState, Stepped, start, step}
use Rattle.daa_state.specs.WordOf.{word_of}
use Rattle.daa_state.specs.declared.word.Word.{Word}
use Rattle.daa_state.proofs.AgeLaws.{word_of-current, step-current}
use Rattle.daa_state.proofs.FormatLaws.{only_format_lines_say_formats, step-format}
use Rattle.daa_replay.specs.Lines.{line_step, events_of}
use Rattle.daa_replay.specs.FourWordLines.{HasNoAges}
use Rattle.daa_replay.proofs.PictureLemmas.{Leaves, each_picture}

-- the format is 1, and the aircraft of the open moment are so
record IsFirstFormat (state : MomentsState) : Type 0 where
  pub format : state.format ≡ 1
  pub current : IsCurrentState state

both : (state : MomentsState) (next : Checked Stepped) → state.format ≡ 1 → IfOk next IsCurrentStep → IfOk next (λ n. n.state.format ≡ state.format)
    → IfOk next (Leaves IsFirstFormat IsCurrentPicture)
both state (Ok next) one h k = record { state = record { format = k ∙ one; current = h.state }; picture = h.picture }
both state (Err fault) one h k = tt

word_leaves : (state : MomentsState) (word : Checked Word) → IsFirstFormat state → IfOk word IsCurrentWord → IfOk word (λ w. is_format_word w ≡ false)
    → IfOk (word >>= step state) (Leaves IsFirstFormat IsCurrentPicture)
word_leaves state (Ok word) h k other = both state (step state word) h.format (step-current state word h.current k) (step-format state word other)
word_leaves state (Err fault) h k other = tt

line_leaves : (state : MomentsState) (line : Bytes) → is_format_line line ≡ false → IsFirstFormat state
    → IfOk (line_step state line) (Leaves IsFirstFormat IsCurrentPicture)
line_leaves state line other h =
    word_leaves state (word_of line state.format) h
    (subst (λ (format : ℕ). IfOk (word_of line format) IsCurrentWord) (sym h.format) (word_of-current line))
    (only_format_lines_say_formats line state.format other)

pub has_no_ages : HasNoAges
unfolding events_of
has_no_ages bytes ended none =
    each_picture (λ line. is_format_line line ≡ false) IsFirstFormat IsCurrentPicture line_leaves start 1 ended (lines_of bytes ended)
    (record { format = refl; current = tt }) none
