-- Inputs in formats 1 and 2, whose reports are taken as the truth.
use Rattle.std.specs.Prelude.{ℕ, ◌≢◌, Bool, All, Ok}
use Rattle.daa_lines.specs.LinesOf.{Bytes, lines_of}
use Rattle.daa_state.specs.Sure.{IsSurePicture}
use Rattle.daa_state.specs.WordOf.{word_of}
use Rattle.daa_state.specs.declared.word.Word.TheVariants as says
use Rattle.daa_replay.specs.Lines.{events_of, OfPicture}

-- the line does not say that format 3 follows, in whatever format it is read
abbrev pub SaysNoFormat3 : Bytes → Type 0
SaysNoFormat3 line = (format : ℕ) → word_of line format ≢ Ok (says.Format 3)

-- an input of which no line says so has no bounds: each report of each moment is taken as the truth
abbrev pub HasNoBounds : Type 0
HasNoBounds = (bytes : Bytes) (ended : Bool) → All SaysNoFormat3 (lines_of bytes ended)
    → All (OfPicture IsSurePicture) (events_of bytes ended)
