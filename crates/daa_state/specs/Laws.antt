-- Laws of the words and moments.
use Rattle.std.specs.Prelude.{ℕ, ◌≡◌, ◌≤◌, Bool, true, false, List, take, length, Err, IfOk}
use Rattle.daa_state.specs.WordOf.{word_of}
use Rattle.daa_state.specs.FourWords.{is_format_line, four_word_of}
use Rattle.daa_state.specs.Current.{IsCurrentWord, IsCurrentState, IsCurrentStep}
use Rattle.daa_state.specs.Sure.{IsSureWord, IsSureState, IsSureStep}
use Rattle.daa_state.specs.MomentStep.{MomentsState, step}
use Rattle.daa_state.specs.declared.word.Word.{Word}
use Rattle.daa_state.specs.declared.word.Word.TheVariants as says
use Rattle.daa_state.specs.declared.fault.LineFault.TheVariants.{LongLine}

-- whether a word names the format
abbrev pub is_format_word : Word → Bool
is_format_word (says.Format format) = true
is_format_word _ = false

-- the first 256 bytes of a line decide its word
abbrev pub First256BytesDecide : Type 0
First256BytesDecide = (line : List ℕ) (format : ℕ) → word_of (take 256 line) format ≡ word_of line format

-- a line of 256 bytes or more is long
abbrev pub LongFrom256Bytes : Type 0
LongFrom256Bytes = (line : List ℕ) (format : ℕ) → 256 ≤ length line → word_of line format ≡ Err LongLine

-- a line whose first field is not `format` gives no format word, in any format
abbrev pub OnlyFormatLinesSayFormats : Type 0
OnlyFormatLinesSayFormats = (line : List ℕ) (format : ℕ) → is_format_line line ≡ false
    → IfOk (word_of line format) (λ word. is_format_word word ≡ false)

-- in format 1 it is read as if there were only the four words
abbrev pub ReadsAsFourWords : Type 0
ReadsAsFourWords = (line : List ℕ) → is_format_line line ≡ false → word_of line 1 ≡ four_word_of line

-- a word other than a format word does not change the format
abbrev pub OtherWordsLeaveTheFormat : Type 0
OtherWordsLeaveTheFormat = (state : MomentsState) (word : Word) → is_format_word word ≡ false
    → IfOk (step state word) (λ next. next.state.format ≡ state.format)

-- in format 1 the aircraft of a word has age 0
abbrev pub Format1SaysNoAges : Type 0
Format1SaysNoAges = (line : List ℕ) → IfOk (word_of line 1) IsCurrentWord

-- if all aircraft of the open moment and of the word have age 0, so have all aircraft of the open
-- moment or of the picture after the step
abbrev pub NoAgesLeaveNoAges : Type 0
NoAgesLeaveNoAges = (state : MomentsState) (word : Word) → IsCurrentState state → IsCurrentWord word
    → IfOk (step state word) IsCurrentStep

-- in formats 1 and 2 each report of a word is taken as the truth
abbrev pub Formats1And2SayNoBounds : Type 0
Formats1And2SayNoBounds = (line : List ℕ) (format : ℕ) → format ≤ 2 → IfOk (word_of line format) IsSureWord

-- if each report of the open moment and of the word is taken as the truth, so is each of the open moment or of the picture after the step
abbrev pub NoBoundsLeaveNoBounds : Type 0
NoBoundsLeaveNoBounds = (state : MomentsState) (word : Word) → IsSureState state → IsSureWord word
    → IfOk (step state word) IsSureStep
