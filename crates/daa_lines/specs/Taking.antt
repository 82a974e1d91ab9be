-- What is taken of a `Lines`.
use Rattle.std.specs.Prelude.{◌≡◌, ◌<◌, ◌≤◌, ◌+◌, false, [], length, if◌then◌else◌, Option, None, Some}
use Rattle.std.specs.Borrow.{Fml, MutBor}
use Rattle.std.specs.Io.BufRead.{Rests}
use Rattle.daa_lines.specs.LinesOf.{Bytes, long_length}
use Rattle.daa_lines.specs.LinesState.{LinesState, is_standing}
use Rattle.daa_lines.specs.declared.lines.Stage.{Stage}
use Rattle.daa_lines.specs.declared.lines.Stage.TheVariants.{Open, Whole, Long, Skipping}
use Rattle.daa_lines.specs.declared.lines.InputLine.{InputLine}
use Rattle.daa_lines.specs.declared.lines.InputLine.TheVariants as line
use Rattle.daa_lines.specs.contracts.lines.Lines.{the_row}

-- after a whole line another begins, and after a long one its rest is skipped
abbrev pub stage_after : Stage → Stage
stage_after Whole = Open
stage_after Long = Skipping
stage_after stage = stage

-- the line that is ready is taken, if there is one
abbrev pub after_taking : LinesState → LinesState
after_taking c = if is_standing c.stage
    then record c { line = []; stage = stage_after c.stage; number = c.number + 1 } else c

-- the line that is handed out is the one that was ready
abbrev pub IsHanded : LinesState → InputLine → Type 0
IsHanded c (line.Whole bytes) = (c.stage ≡ Whole) × (bytes.now ≡ c.line) × (length c.line < long_length)
IsHanded c line.Long = (c.stage ≡ Long) × (length c.line ≡ long_length)
IsHanded c line.NotYet = is_standing c.stage ≡ false

-- a line that is not long is handed out as its bytes, a long one as long, and no line as not yet
abbrev pub IsLineOf : Option Bytes → InputLine → Type 0
IsLineOf (Some bytes) (line.Whole given) = (given.now ≡ bytes) × (length bytes < long_length)
IsLineOf (Some bytes) line.Long = long_length ≤ length bytes
IsLineOf None line.NotYet = Unit {0}
IsLineOf _ _ = ⊥

-- once the line is no longer borrowed, it is taken
abbrev pub LeavesTaken : MutBor LinesState → Fml
LeavesTaken lines = Rests the_row lines (λ new. new ≡ after_taking lines.now)
