-- How far a reader of an input has come.
use Rattle.std.specs.Prelude.{◌≡◌, ◌++◌, false, List, [], ◌∷◌, Option, None, Some}
use Rattle.daa_lines.specs.LinesOf.{Bytes}
use Rattle.daa_lines.specs.LinesState.{LinesState}
use Rattle.daa_lines.specs.ComesFrom.{ComesFrom}
use Rattle.daa_state.specs.Fault.{Checked, ◌>>=◌}
use Rattle.daa_state.specs.MomentStep.{MomentsState, Stepped, start, step}
use Rattle.daa_state.specs.declared.word.Word.{Word}
use Rattle.daa_replay.specs.declared.lines.Event.{Event}
use Rattle.daa_replay.specs.Lines.{line_step, next_state, events_from}

-- the word steps the state, if there is one
abbrev pub word_step : MomentsState → Checked Word → Checked Stepped
word_step state word = word >>= step state

-- the state after lines
abbrev pub state_after : MomentsState → List Bytes → MomentsState
state_after state [] = state
state_after state (line ∷ lines) = state_after (next_state state (line_step state line)) lines

-- the events given, with one more where there is one
abbrev pub given_with : List Event → Option Event → List Event
given_with given None = given
given_with given (Some event) = given ++ event ∷ []

-- these bytes were fed, some of their lines were taken, and these are the events of the taken lines
pub record Follows (bytes : Bytes) (given : List Event) (lines : LinesState)
    (moments : MomentsState) : Type 0 where
  pub taken : List Bytes
  pub comes_from : ComesFrom bytes taken lines
  pub state_is : moments ≡ state_after start taken
  pub events_are : given ≡ events_from start 1 false taken
