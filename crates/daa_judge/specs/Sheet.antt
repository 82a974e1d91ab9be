-- What contracts see of a sheet.
use Rattle.std.specs.Prelude.{ℕ, ◌≡◌, ◌<◌, ◌≤◌, List, length}

-- its text, how many writes to it failed since it was last cut or cleared, and how many bytes it has room for
pub record SheetState : Type 0 where
  pub text : List ℕ
  pub faults : ℕ
  pub room : ℕ

-- the number of bytes that every sheet has room for at least
abbrev pub sheet_room : ℕ
sheet_room = 130177

-- a write fails only where the sheet is full
pub record IsSheet (sheet : SheetState) : Type 0 where
  pub large : sheet_room ≤ sheet.room
  pub within : length sheet.text ≤ sheet.room
  pub full : 0 < sheet.faults → length sheet.text ≡ sheet.room
