-- What a `Lines` keeps of the line in hand.
use Rattle.std.specs.Prelude.{min, ◌≡◌, ◌<◌, ℕ, [], length, if◌then◌else◌}
use Rattle.daa_lines.specs.LinesOf.{Bytes, long_length}
use Rattle.daa_lines.specs.declared.lines.Stage.{Stage}
use Rattle.daa_lines.specs.declared.lines.Stage.TheVariants.{Open, Whole, Long, Skipping}
use Rattle.daa_lines.specs.LinesState.{is_standing}

-- how long the line in hand is
abbrev pub IsSized : Stage → Bytes → Type 0
IsSized Open line = length line < long_length
IsSized Whole line = length line < long_length
IsSized Long line = length line ≡ long_length
IsSized Skipping line = line ≡ []

-- 1 if a line is ready or was begun, which has no number yet
abbrev pub owed : Stage → Bytes → ℕ
owed stage line = if is_standing stage then 1 else min 1 (length line)
