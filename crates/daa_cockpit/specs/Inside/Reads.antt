-- What the lines of an input say.
use Rattle.std.specs.Prelude.{ℕ, List, [], ◌∷◌, ◌++◌, fold, Option, None, Some, Result, Ok, Err, String, string_bytes}
use Rattle.std.specs.declared.alloc.Global.{Global}
use Rattle.daa_state.specs.Fault.{Checked, ◌>>=◌}
use Rattle.daa_state.specs.MomentStep.{MomentsState, Stepped, start, step, finished}
use Rattle.daa_state.specs.WordOf.{word_of}
use Rattle.daa_state.specs.declared.word.Picture.{Picture}

-- what stands after some lines: the state of the moments, and the pictures so far
pub record Read : Type 0 where
  pub state : MomentsState
  pub pictures : List Picture

-- these two as one
abbrev pub read : MomentsState → List Picture → Read
read state pictures = record { state = state; pictures = pictures }

-- the picture of the moment that ended, if one did, stands behind the others
abbrev pub with_ended : List Picture → Option Picture → List Picture
with_ended pictures None = pictures
with_ended pictures (Some picture) = pictures ++ picture ∷ []

-- a line is read in the format of the state before it, and its word steps the state
abbrev pub line_step : MomentsState → List ℕ → Checked Stepped
line_step state line = do
  word ← word_of line state.format
  step state word

-- one line more was read, or the first fault stays
abbrev pub read_more : Checked Read → List ℕ → Checked Read
read_more before line = do
  before ← before
  next ← line_step before.state line
  Ok (read next.state (with_ended before.pictures next.picture))

-- a line more was read, if the read did not fail
abbrev pub read_item : {E : Type 0} → Checked Read → Result (String Global) E → Checked Read
read_item before (Ok line) = read_more before (string_bytes line)
read_item before (Err fault) = before

-- these pictures, and behind them those of the moments that these lines end, in order; or the first fault, which may be
-- that the last moment does not end
abbrev pub pictures_after : {E : Type 0} → List Picture → List (Result (String Global) E) → Checked (List Picture)
pictures_after pictures lines = do
  all ← fold read_item (Ok (read start pictures)) lines
  over ← finished all.state
  Ok all.pictures
