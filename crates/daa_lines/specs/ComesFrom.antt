-- Which bytes went in, and which lines came out.
use Rattle.std.specs.Prelude.{◌≡◌, ◌≤◌, false, List, [], ◌∷◌, ◌++◌, length}
use Rattle.daa_lines.specs.LinesOf.{Bytes, stretches_of, lines_of, long_length, shown}
use Rattle.daa_lines.specs.LinesState.{LinesState}
use Rattle.daa_lines.specs.declared.lines.Stage.{Stage}
use Rattle.daa_lines.specs.declared.lines.Stage.TheVariants.{Open, Whole, Long, Skipping}

-- the line that is ready, if there is one
abbrev pub standing : Stage → Bytes → List Bytes
standing Whole line = line ∷ []
standing Long line = line ∷ []
standing _ line = []

-- the last of the stretches
abbrev pub rest_in : List Bytes → Bytes
rest_in [] = []
rest_in (rest ∷ []) = rest
rest_in (line ∷ stretches) = rest_in stretches

-- what the bytes after the last line feed are
abbrev pub IsRest : Stage → Bytes → Bytes → Type 0
IsRest Open line rest = rest ≡ line
IsRest Whole line rest = rest ≡ []
IsRest Long line rest = rest ≡ line
IsRest Skipping line rest = long_length ≤ length rest

-- these bytes were fed, and these lines were taken
pub record ComesFrom (bytes : Bytes) (taken : List Bytes) (c : LinesState) : Type 0 where
  pub fed : c.fed ≡ length bytes
  pub number : c.number ≡ length taken
  -- the lines of the bytes are those taken, and then the one that is ready
  pub lines : shown (lines_of bytes c.ended) ≡ taken ++ standing c.stage c.line
  pub rest : c.ended ≡ false → IsRest c.stage c.line (rest_in (stretches_of bytes))
