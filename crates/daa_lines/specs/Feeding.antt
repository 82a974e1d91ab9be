-- How many bytes of a piece are taken.
use Rattle.std.specs.Prelude.{min, ℕ, [], ◌∷◌, ◌==◌, ◌+◌, ◌-◌, length, if◌then◌else◌}
use Rattle.daa_lines.specs.LinesOf.{Bytes, line_feed, long_length}
use Rattle.daa_lines.specs.declared.lines.Stage.{Stage}
use Rattle.daa_lines.specs.declared.lines.Stage.TheVariants.{Open, Whole, Long, Skipping}

-- how many bytes there are up to and with the first line feed, or in all where there is none
abbrev pub up_to_line_feed : Bytes → ℕ
up_to_line_feed [] = 0
up_to_line_feed (byte ∷ bytes) = if byte == line_feed then 1 else 1 + up_to_line_feed bytes

-- An open line takes none past its line feed, and none past the byte that makes it long. The rest of a long line
-- takes none past its line feed. A line that is ready takes none.
abbrev pub bytes_taken : Stage → Bytes → Bytes → ℕ
bytes_taken Open line piece = min (up_to_line_feed piece) (long_length - length line)
bytes_taken Skipping line piece = up_to_line_feed piece
bytes_taken Whole line piece = 0
bytes_taken Long line piece = 0
