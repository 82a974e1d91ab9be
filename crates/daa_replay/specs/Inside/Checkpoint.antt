-- How far a piece is read, and places of it between two moments.
use Rattle.std.specs.Prelude.{ℕ, ◌≡◌, ◌≤◌, ◌<◌, ◌+◌, ◌-◌, ◌^◌, ◌++◌, false, None, Some, List, [], length, take}
use Rattle.daa_lines.specs.LinesOf.{Bytes}
use Rattle.daa_lines.specs.LinesState.{LinesState}
use Rattle.daa_lines.specs.declared.lines.Stage.TheVariants.{Open}
use Rattle.daa_state.specs.InRange.{IsFormat}
use Rattle.daa_state.specs.MomentStep.{MomentsState}
use Rattle.daa_replay.specs.declared.lines.Event.{Event}
use Rattle.daa_replay.specs.declared.checkpoint.Checkpoint.{Checkpoint}
use Rattle.daa_replay.specs.Lines.{OfPicture}
use Rattle.daa_replay.specs.Inside.Lines.{Follows}

-- how many bytes of a piece are fed, and the lines and moments then
pub record Reading : Type 0 where
  pub done : ℕ
  pub lines : LinesState
  pub moments : MomentsState

-- a reading of these parts
abbrev pub reading : ℕ → LinesState → MomentsState → Reading
reading done lines moments = record { done = done; lines = lines; moments = moments }

-- the lines at a place, of which none is in hand
abbrev pub lines_at : Checkpoint → LinesState
lines_at place = record { line = []; stage = Open; ended = false; fed = place.fed; number = place.number }

-- the moments at a place, of which none is open
abbrev pub moments_at : Checkpoint → MomentsState
moments_at place = record { moment = None; last = place.last; format = place.format }

-- how far a piece is read at a place
abbrev pub reading_at : Checkpoint → Reading
reading_at place = reading place.done (lines_at place) (moments_at place)

-- the rest of the piece can be read from the place on
pub record IsCheckpoint (piece : Bytes) (place : Checkpoint) : Type 0 where
  pub within : place.done ≤ length piece
  pub counted : place.number ≤ place.fed
  pub format : IsFormat place.format
  pub room : place.fed + (length piece - place.done) < 2 ^ 63

-- from one reading of a piece to a later one, its lines give these events
abbrev pub Gives : Bytes → List Event → (from upto : Reading) → Type 0
Gives piece events from upto = (bytes : Bytes) (given : List Event)
    → Follows (bytes ++ take from.done piece) given from.lines from.moments
    → Follows (bytes ++ take upto.done piece) (given ++ events) upto.lines upto.moments

-- an ended moment is the last one that ended
abbrev pub HasLast : Event → MomentsState → Type 0
HasLast event moments = OfPicture (λ picture. moments.last ≡ Some picture.time) event
