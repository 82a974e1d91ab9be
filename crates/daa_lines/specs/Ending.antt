-- What the end of the input makes of a `Lines`.
use Rattle.std.specs.Prelude.{true, [], ◌∷◌, if◌then◌else◌}
use Rattle.daa_lines.specs.LinesOf.{Bytes}
use Rattle.daa_lines.specs.LinesState.{LinesState}
use Rattle.daa_lines.specs.declared.lines.Stage.{Stage}
use Rattle.daa_lines.specs.declared.lines.Stage.TheVariants.{Open, Whole}

-- a line that was begun is then ready; nothing else changes
abbrev pub stage_at_end : Stage → Bytes → Stage
stage_at_end Open [] = Open
stage_at_end Open (byte ∷ line) = Whole
stage_at_end stage line = stage

-- the input ends once
abbrev pub after_end : LinesState → LinesState
after_end c = if c.ended then c else record c { ended = true; stage = stage_at_end c.stage c.line }
