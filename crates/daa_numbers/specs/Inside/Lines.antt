-- What a word makes of the lines so far.
use Rattle.std.specs.Prelude.{◌≡◌, ◌≤◌, Bool, Ok, Err}
use Rattle.daa_state.specs.MomentStep.{step, stepped}
use Rattle.daa_state.specs.declared.fault.LineFault.{LineFault}
use Rattle.daa_state.specs.declared.word.Word.{Word}
use Rattle.daa_state.specs.declared.word.Word.TheVariants as says
use Rattle.daa_numbers.specs.declared.lines.DaaLines.{DaaLines}
use Rattle.daa_numbers.specs.Lines.{lines_by, picture_if}

-- the word is taken, and ends the moment or does not
abbrev pub IsStep : DaaLines → Word → Bool → DaaLines → Type 0
IsStep old word ended new = step (lines_by old) word ≡ Ok (stepped (lines_by new) (picture_if ended new))

-- the word is refused by the fault
abbrev pub IsNoStep : DaaLines → Word → LineFault → Type 0
IsNoStep old word fault = step (lines_by old) word ≡ Err fault

-- if the word names a format, it is 1 or 2
abbrev pub IsOfEarlyFormat : Word → Type 0
IsOfEarlyFormat (says.Format format) = format ≤ 2
IsOfEarlyFormat _ = Unit {0}
