-- State lines that are taken one after the other: what a caller's numbers say of the lines so far.
use Rattle.std.specs.Prelude.{◌≡◌, ◌==◌, Bool, false, ℕ, ℤ, zero, suc, pos, List, map, take, Option, Some, None, Ok, Err, if◌then◌else◌}
use Rattle.daa_state.specs.Bounds.{no_error}
use Rattle.daa_state.specs.Fault.{Checked, ◌>>=◌, code_of}
use Rattle.daa_state.specs.MomentStep.{MomentsState, Stepped, step, stepped}
use Rattle.daa_state.specs.WordOf.{word_of}
use Rattle.daa_state.specs.declared.fault.LineFault.{LineFault}
use Rattle.daa_state.specs.declared.fault.LineFault.TheVariants.{OutOfRange}
use Rattle.daa_state.specs.declared.moments.Moment.{Moment}
use Rattle.daa_state.specs.declared.word.Picture.{Picture}
use Rattle.daa_state.specs.declared.word.Traffic.{Traffic}
use Rattle.daa_state.specs.declared.word.Word.{Word}
use Rattle.daa_state.specs.declared.word.Word.TheVariants as says
use Rattle.daa_numbers.specs.declared.lines.DaaLines.{DaaLines}
use Rattle.daa_numbers.specs.States.{traffic_of}

-- a value, where the flag is not 0
abbrev pub flagged : {A : Type 0} → ℕ → A → Option A
flagged zero value = None
flagged (suc n) value = Some value

-- the format of the lines that come: 2 where the number is 2, else 1
abbrev pub format_by : ℕ → ℕ
format_by number = if number == 2 then 2 else 1

-- the aircraft so far: those in the first places, as many as are counted
abbrev pub aircraft_by : DaaLines → List Traffic
aircraft_by lines = map traffic_of (take lines.count lines.traffic)

-- the moment in the numbers, whose reports are taken as the truth
abbrev pub moment_by : DaaLines → Moment
moment_by lines = record { time = lines.time; own = flagged lines.owned lines.own; bounds = no_error; traffic = record { items = aircraft_by lines } }

-- what the numbers say of the lines so far
abbrev pub lines_by : DaaLines → MomentsState
lines_by lines = record { moment = flagged lines.opened (moment_by lines); last = flagged lines.ended lines.last; format = format_by lines.format }

-- the picture in the numbers
abbrev pub picture_by : DaaLines → Picture
picture_by lines = record { time = lines.time; own = lines.own; traffic = record { items = aircraft_by lines } }

-- the picture of the moment that has ended, if one has
abbrev pub picture_if : Bool → DaaLines → Option Picture
picture_if ended lines = if ended then Some (picture_by lines) else None

-- the numbers of the moment are those of before, whether or not one is open
abbrev pub KeepsMoment : (old new : DaaLines) → Type 0
KeepsMoment old new = new ≡ record old { format = new.format; ended = new.ended; last = new.last; opened = new.opened }

-- the lines that follow have bounds: they are in format 3
abbrev pub asks_for_bounds : Word → Bool
asks_for_bounds (says.Format format) = format == 3
asks_for_bounds word = false

-- the word of a line in format 1 or 2; format 3 is refused as a number that is out of its range
abbrev pub early_word_of : List ℕ → ℕ → Checked Word
early_word_of line format = word_of line format >>= λ word. if asks_for_bounds word then Err OutOfRange else Ok word

-- what a line makes of those before it: its word, and then the step of the word; or the first fault
abbrev pub line_step : MomentsState → List ℕ → Checked Stepped
line_step state line = early_word_of line state.format >>= step state

-- the line is taken, and ends the moment or does not
abbrev pub IsLineTaken : DaaLines → List ℕ → Bool → DaaLines → Type 0
IsLineTaken old line ended new = line_step (lines_by old) line ≡ Ok (stepped (lines_by new) (picture_if ended new))

-- the line is refused, by the fault of this number
pub record IsLineRefused (old : DaaLines) (line : List ℕ) (number : ℤ) : Type 0 where
  pub fault : LineFault
  pub refused : line_step (lines_by old) line ≡ Err fault
  pub is : pos (code_of fault) ≡ number
