-- How far the events of an input were given, and which may still be.
use Rattle.std.specs.Prelude.{ℕ, ◌≡◌, ◌<◌, ◌≤◌, ◌+◌, ◌-◌, ◌^◌, ◌++◌, ◌⊎◌, Bool, true, false, List}
use Rattle.daa_lines.specs.LinesOf.{Bytes}
use Rattle.daa_lines.specs.LinesState.{LinesState, is_standing}
use Rattle.daa_state.specs.MomentStep.{MomentsState}
use Rattle.daa_replay.specs.declared.lines.Event.{Event}
use Rattle.daa_replay.specs.declared.events.Left.{Left}
use Rattle.daa_replay.specs.declared.events.Left.TheVariants as left
use Rattle.daa_replay.specs.declared.events.Progress.{Progress}
use Rattle.daa_replay.specs.Lines.{events_of}
use Rattle.daa_replay.specs.Inside.Lines.{Follows}

-- these bytes were fed, and these of their events were given: once nothing is left, all of them
abbrev pub Gave : Left → Bytes → List Event → LinesState → MomentsState → Type 0
Gave left.Lines bytes given lines moments = Follows bytes given lines moments
Gave left.End bytes given lines moments = Follows bytes given lines moments
Gave left.Nothing bytes given lines moments = given ≡ events_of bytes true

-- the same of how far an input was read
abbrev pub IsGiven : Bytes → List Event → Progress → Type 0
IsGiven bytes given p = Gave p.left bytes given p.lines p.moments

-- no line is ready, the input goes on, and so many bytes more may be fed
pub record HasLines (rest : ℕ) (lines : LinesState) : Type 0 where
  pub free : is_standing lines.stage ≡ false
  pub going : lines.ended ≡ false
  pub room : lines.fed + rest < 2 ^ 63

-- the input is over, and its last line was taken
pub record HasEnd (lines : LinesState) : Type 0 where
  pub free : is_standing lines.stage ≡ false
  pub ended : lines.ended ≡ true
  pub room : lines.fed < 2 ^ 63

-- all of the last piece was fed
pub record IsFed (last : Bool) (rest : ℕ) : Type 0 where
  pub ends : last ≡ true
  pub none : rest ≡ 0

-- an event may be asked for, where so many bytes of a piece are not fed yet
abbrev pub CanGive : Left → (last : Bool) → (rest : ℕ) → LinesState → Type 0
CanGive left.Lines last rest lines = HasLines rest lines
CanGive left.End last rest lines = HasEnd lines × IsFed last rest
CanGive left.Nothing last rest lines = IsFed last rest

-- an event may be asked for, where so many bytes of a piece of this size were fed
pub record IsAt (size done : ℕ) (last : Bool) (p : Progress) : Type 0 where
  pub within : done ≤ size
  pub can : CanGive p.left last (size - done) p.lines

-- how many events there may be once all is fed
abbrev pub events_at_end : Left → ℕ
events_at_end left.Lines = 2
events_at_end left.End = 1
events_at_end left.Nothing = 0

-- bytes of a piece are not fed yet, or it is the last, and its end was not reached
abbrev pub IsMore : (size done : ℕ) → (last : Bool) → Left → Type 0
IsMore size done last left = (done < size) ⊎ ((last ≡ true) × (0 < events_at_end left))

-- no line is ready, and the input is not over
pub record IsBetween (p : Progress) : Type 0 where
  pub left : p.left ≡ left.Lines
  pub free : is_standing p.lines.stage ≡ false
  pub going : p.lines.ended ≡ false

-- after the events of a piece: others may come, or it was the last and nothing is left
abbrev pub IsAfter : (last : Bool) → Progress → Type 0
IsAfter true p = p.left ≡ left.Nothing
IsAfter false p = IsBetween p

-- these are the first of the events, or all
abbrev pub IsFront : (first whole : List Event) → Type 0
IsFront first whole = (more : List Event) × (whole ≡ first ++ more)
