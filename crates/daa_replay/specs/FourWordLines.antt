-- The events of an input if there were no word `format` and no ages: each line gives one of the
-- four other words.
use Rattle.std.specs.Prelude.{ℕ, ◌≡◌, ◌+◌, ◌++◌, Bool, true, false, if◌then◌else◌, List, [], ◌∷◌, All, is_some}
use Rattle.daa_lines.specs.LinesOf.{Bytes, lines_of}
use Rattle.daa_state.specs.Current.{IsCurrentPicture}
use Rattle.daa_state.specs.Fault.{Checked, ◌>>=◌}
use Rattle.daa_state.specs.FourWords.{four_word_of, is_format_line}
use Rattle.daa_state.specs.MomentStep.{MomentsState, Stepped, start, step}
use Rattle.daa_state.specs.declared.fault.LineFault.TheVariants.{Unfinished}
use Rattle.daa_replay.specs.declared.lines.Event.{Event}
use Rattle.daa_replay.specs.declared.lines.Event.TheVariants as event
use Rattle.daa_replay.specs.Lines.{next_state, line_event, events_of, OfPicture}

-- a line is read as one of the four words, and its word changes the state
abbrev pub four_line_step : MomentsState → Bytes → Checked Stepped
four_line_step state line = four_word_of line >>= step state

-- the events of lines that are read so, the first of which has the number
abbrev pub four_events_from : MomentsState → ℕ → Bool → List Bytes → List Event
four_events_from state number false [] = []
four_events_from state number true [] = if is_some state.moment then event.Refused number Unfinished ∷ [] else []
four_events_from state number ended (line ∷ lines) =
    line_event number (four_line_step state line)
    ++ four_events_from (next_state state (four_line_step state line)) (number + 1) ended lines

-- the events of bytes whose lines are read so
unfoldable pub four_events_of : Bytes → Bool → List Event
four_events_of bytes ended = four_events_from start 1 ended (lines_of bytes ended)

-- no line's first field is `format`
abbrev pub HasNoFormatLine : Bytes → Bool → Type 0
HasNoFormatLine bytes ended = All (λ line. is_format_line line ≡ false) (lines_of bytes ended)

-- an input without such a line is read as if there were no such word
abbrev pub ReadsAsFourWords : Type 0
ReadsAsFourWords = (bytes : Bytes) (ended : Bool) → HasNoFormatLine bytes ended
    → events_of bytes ended ≡ four_events_of bytes ended

-- and its aircraft have age 0
abbrev pub HasNoAges : Type 0
HasNoAges = (bytes : Bytes) (ended : Bool) → HasNoFormatLine bytes ended
    → All (OfPicture IsCurrentPicture) (events_of bytes ended)
