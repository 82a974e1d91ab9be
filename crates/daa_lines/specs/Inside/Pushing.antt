-- What one byte makes of a `Lines`.
use Rattle.std.specs.Prelude.{ℕ, Bool, ◌||◌, [], ◌∷◌, ◌++◌, ◌==◌, ◌+◌, length, if◌then◌else◌}
use Rattle.daa_lines.specs.LinesOf.{Bytes, line_feed, long_length}
use Rattle.daa_lines.specs.LinesState.{LinesState, is_standing}
use Rattle.daa_lines.specs.declared.lines.Stage.{Stage}
use Rattle.daa_lines.specs.declared.lines.Stage.TheVariants.{Open, Whole, Long, Skipping}

-- an open line ends at a line feed, and any other byte goes into it and may make it long
abbrev pub at_open : Bytes → ℕ → Bytes × Stage
at_open line byte =
    if byte == line_feed then (line, Whole)
    else (line ++ byte ∷ [], if length line + 1 == long_length then Long else Open)

-- a line that is skipped ends at a line feed, and one that is ready stays
abbrev pub at_stage : Stage → Bytes → ℕ → Bytes × Stage
at_stage Open line byte = at_open line byte
at_stage Skipping line byte = ([], if byte == line_feed then Open else Skipping)
at_stage Whole line byte = (line, Whole)
at_stage Long line byte = (line, Long)

-- a `Lines` after one byte more was fed
unfoldable pub after_byte : LinesState → ℕ → LinesState
after_byte c byte = record c {
  line = (at_stage c.stage c.line byte).0;
  stage = (at_stage c.stage c.line byte).1;
  fed = c.fed + 1;
}

-- whether it is the last byte that is taken for now: a line feed, or the byte that makes a line long
abbrev pub is_last : LinesState → ℕ → Bool
is_last c byte = (byte == line_feed) || is_standing (at_stage c.stage c.line byte).1
