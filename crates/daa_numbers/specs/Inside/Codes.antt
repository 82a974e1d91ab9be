-- What the codes of refused numbers are not.
use Rattle.std.specs.Prelude.{◌≡◌, ◌≢◌, ℤ, pos, Option}
use Rattle.daa_numbers.specs.Asked.{HasNoKind}
use Rattle.daa_numbers.specs.Refusal.{IsCodeOf}
use Rattle.daa_numbers.specs.declared.refusal.Refusal.{Refusal}

-- the code is none of room that is too short, a kind, a side, what is not asked for, a board, a time, a level or a flight
pub record IsOfStates (code : ℤ) : Type 0 where
  pub long : code ≢ pos 19
  pub kind : code ≢ pos 23
  pub side : code ≢ pos 24
  pub asked : code ≢ pos 26
  pub board : code ≢ pos 27
  pub own : code ≢ pos 28
  pub time : code ≢ pos 29
  pub damage : code ≢ pos 30
  pub old : code ≢ pos 31
  pub ahead : code ≢ pos 32
  pub level : code ≢ pos 34
  pub flight : code ≢ pos 36

-- the code is that of a refusal, which is there, and no other code
pub record IsRefused (refusal : Option Refusal) (code : ℤ) : Type 0 where
  pub is : IsCodeOf refusal code
  pub some : code ≢ pos 0
  pub others : IsOfStates code

-- the code is 23, and the number stands for no kind where nothing is refused, or that of a refusal
pub record IsRefusedOfKind (refusal : Option Refusal) (number code : ℤ) : Type 0 where
  pub no_kind : code ≡ pos 23 → HasNoKind refusal number
  pub refused : code ≢ pos 23 → IsRefused refusal code
