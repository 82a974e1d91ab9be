-- The events of an input: what its lines give, one after the other.
use Rattle.std.specs.Prelude.{ℕ, ◌+◌, ◌++◌, Bool, true, false, if◌then◌else◌, List, [], ◌∷◌, is_some, Ok, Err}
use Rattle.std.specs.Option.{option_map_or}
use Rattle.daa_lines.specs.LinesOf.{Bytes, lines_of}
use Rattle.daa_state.specs.Fault.{Checked, ◌>>=◌}
use Rattle.daa_state.specs.InRange.{IsPictureInRange}
use Rattle.daa_state.specs.WordOf.{word_of}
use Rattle.daa_state.specs.MomentStep.{MomentsState, Stepped, start, step}
use Rattle.daa_state.specs.declared.fault.LineFault.TheVariants.{Unfinished}
use Rattle.daa_state.specs.declared.word.Picture.{Picture}
use Rattle.daa_replay.specs.declared.lines.Event.{Event}
use Rattle.daa_replay.specs.declared.lines.Event.TheVariants as event

-- a line is read in the format of the state before it, and its word steps the state
abbrev pub line_step : MomentsState → Bytes → Checked Stepped
line_step state line = word_of line state.format >>= step state

-- a refused line leaves the state unchanged
abbrev pub next_state : MomentsState → Checked Stepped → MomentsState
next_state state (Ok next) = next.state
next_state state (Err fault) = state

-- the event of the line with this number: a refusal, an ended moment, or nothing
abbrev pub line_event : ℕ → Checked Stepped → List Event
line_event number (Ok next) = option_map_or (λ picture. event.Ended picture ∷ []) next.picture []
line_event number (Err fault) = event.Refused number fault ∷ []

-- the events of lines, the first of which has the number; if these are all lines, and a moment is
-- still open, a refusal follows under the number after the last line's
abbrev pub events_from : MomentsState → ℕ → Bool → List Bytes → List Event
events_from state number false [] = []
events_from state number true [] = if is_some state.moment then event.Refused number Unfinished ∷ [] else []
events_from state number ended (line ∷ lines) =
    line_event number (line_step state line)
    ++ events_from (next_state state (line_step state line)) (number + 1) ended lines

-- the events of the bytes, which are the whole input if it has ended, and else its beginning
unfoldable pub events_of : Bytes → Bool → List Event
events_of bytes ended = events_from start 1 ended (lines_of bytes ended)

-- whether an event is a refusal
abbrev pub is_refusal : Event → Bool
is_refusal (event.Refused number fault) = true
is_refusal (event.Ended picture) = false

-- P holds of the picture of an ended moment
abbrev pub OfPicture : (Picture → Type 0) → Event → Type 0
OfPicture P (event.Refused number fault) = Unit {0}
OfPicture P (event.Ended picture) = P picture

-- the picture of an event is in range
abbrev pub IsEventInRange : Event → Type 0
IsEventInRange event = OfPicture IsPictureInRange event
