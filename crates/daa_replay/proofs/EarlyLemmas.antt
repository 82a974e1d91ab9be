-- Where no line says that format 3 follows, each report is taken as the truth.
use Rattle.std.proofs.Common.{ℕ, ◌≡◌, ◌≢◌, ◌≤◌, ◌∙◌, Ok, Err, ap, refl, subst, sym, arith}
use Rattle.std.specs.Prelude.{IfOk, is_some}
use Rattle.daa_lines.specs.LinesOf.{Bytes, lines_of}
use Rattle.daa_state.specs.Fault.{Checked, ◌>>=◌}
use Rattle.daa_state.specs.InRange.{IsFormat, IsWordInRange}
use Rattle.daa_state.specs.MomentStep.{MomentsState, Stepped, start, step}
use Rattle.daa_state.specs.Sure.{IsSureWord, IsSureState, IsSurePicture, IsSureStep}
use Rattle.daa_state.specs.WordOf.{word_of}
use Rattle.daa_state.specs.declared.word.Word.{Word}
use Rattle.daa_state.specs.declared.word.Word.TheVariants as says
use Rattle.daa_state.proofs.CheckedLemmas.{IfOk-if}
use Rattle.daa_state.proofs.FormatLaws.{step-format}
use Rattle.daa_state.proofs.SureLaws.{word_of-sure, step-sure}
use Rattle.daa_state.proofs.WordRanges.{word_of-range}
use Rattle.daa_replay.specs.EarlyFormats.{SaysNoFormat3, HasNoBounds}
use Rattle.daa_replay.specs.Lines.{line_step, events_of}
use Rattle.daa_replay.proofs.PictureLemmas.{Leaves, each_picture}

-- the format is 1 or 2, and each report of the open moment is taken as the truth
record IsEarly (state : MomentsState) : Type 0 where
  pub format : state.format ≤ 2
  pub sure : IsSureState state

-- the format stays so, unless the word names format 3
same_format : (state : MomentsState) (next : Checked Stepped) → state.format ≤ 2 → IfOk next (λ n. n.state.format ≡ state.format) → IfOk next (λ n. n.state.format ≤ 2)
same_format state (Ok next) few same = subst (λ (format : ℕ). format ≤ 2) (sym same) few
same_format state (Err fault) few same = tt

early : (state : MomentsState) (word : Word) → state.format ≤ 2 → word ≢ says.Format 3 → IsWordInRange word → IfOk (step state word) (λ n. n.state.format ≤ 2)
unfolding step
early state (says.Moment time) few other range = same_format state (step state (says.Moment time)) few (step-format state (says.Moment time) refl)
early state (says.Own own bounds) few other range = same_format state (step state (says.Own own bounds)) few (step-format state (says.Own own bounds) refl)
early state (says.Traffic traffic) few other range = same_format state (step state (says.Traffic traffic)) few (step-format state (says.Traffic traffic) refl)
early state (says.Format format) few other range = IfOk-if _ (is_some state.moment) _ _ tt (below format range.1 (λ is. other (ap says.Format is)))
  where
    below : (n : ℕ) → n ≤ 3 → n ≢ 3 → n ≤ 2
    below n h k = grind arith
early state says.End few other range = same_format state (step state says.End) few (step-format state says.End refl)
early state says.Skip few other range = same_format state (step state says.Skip) few (step-format state says.Skip refl)

both : (next : Checked Stepped) → IfOk next (λ n. n.state.format ≤ 2) → IfOk next IsSureStep → IfOk next (Leaves IsEarly IsSurePicture)
both (Ok next) few sure = record { state = record { format = few; sure = sure.state }; picture = sure.picture }
both (Err fault) few sure = tt

word_leaves : (state : MomentsState) (read : Checked Word) → IsEarly state → IfOk read IsSureWord → IfOk read IsWordInRange → read ≢ Ok (says.Format 3)
    → IfOk (read >>= step state) (Leaves IsEarly IsSurePicture)
word_leaves state (Ok word) h sure range other =
    both (step state word) (early state word h.format (λ is. other (ap (λ (w : Word). Ok w) is)) range) (step-sure state word h.sure sure)
word_leaves state (Err fault) h sure range other = tt

line_leaves : (state : MomentsState) (line : Bytes) → SaysNoFormat3 line → IsEarly state → IfOk (line_step state line) (Leaves IsEarly IsSurePicture)
line_leaves state line other h =
    word_leaves state (word_of line state.format) h (word_of-sure line state.format h.format) (word_of-range line state.format) (other state.format)

pub has_no_bounds : HasNoBounds
unfolding events_of
has_no_bounds bytes ended none =
    each_picture SaysNoFormat3 IsEarly IsSurePicture line_leaves start 1 ended (lines_of bytes ended)
    (record { format = omega arith; sure = tt }) none
