-- What a `Lines` is to its caller.
use Rattle.std.specs.Prelude.{ℕ, Bool, true, false, [], if◌then◌else◌}
use Rattle.daa_lines.specs.LinesOf.{Bytes}
use Rattle.daa_lines.specs.declared.lines.Stage.{Stage}
use Rattle.daa_lines.specs.declared.lines.Stage.TheVariants.{Whole, Long}

-- the line in hand and what it is, whether the input ended, and how many bytes were fed and lines taken
pub record LinesState : Type 0 where
  pub line : Bytes
  pub stage : Stage
  pub ended : Bool
  pub fed : ℕ
  pub number : ℕ

-- a line is ready and is not taken yet
abbrev pub is_standing : Stage → Bool
is_standing Whole = true
is_standing Long = true
is_standing _ = false

-- the line in hand, where a buffer may still have the bytes of a line that was taken
abbrev pub held : Bool → Bytes → Bytes
held stale bytes = if stale then [] else bytes
