-- What contracts see of the shelf, the source and the sink of a run.
use Rattle.std.specs.Prelude.{ℕ, ◌≡◌, ◌++◌, Option}
use Rattle.std.specs.Io.KnownBytes.{Appends}
use Rattle.daa_ahead.specs.Bytes.{StreamState}
use Rattle.daa_io.specs.Faults.{HasRisen}
use Rattle.daa_io.specs.Shelf.{Texts}
use Rattle.daa_report.specs.Lines.{Text}

-- of a shelf: the texts that it holds, if it shows them, and its fault counter
pub record ShelfState : Type 0 where
  pub texts : Option Texts
  pub faults : ℕ

-- the state with these texts and this fault counter
abbrev pub shelf_state : Option Texts → ℕ → ShelfState
shelf_state texts faults = record { texts = texts; faults = faults }

-- the three objects that a run is given
pub record Outside : Type 0 where
  pub shelf : ShelfState
  pub source : StreamState
  pub sink : StreamState

-- the three together
abbrev pub outside : ShelfState → StreamState → StreamState → Outside
outside shelf source sink = record { shelf = shelf; source = source; sink = sink }

-- the sink took exactly a text of which P holds, and no call of it failed
pub record TakesSome (P : Text → Type 0) (old new : StreamState) : Type 0 where
  pub text : Text
  pub is : P text
  pub taken : Appends old.bytes new.bytes text
  pub calm : new.faults ≡ old.faults

-- the sink failed, and had taken exactly a beginning of a text of which P holds
pub record BreaksSome (P : Text → Type 0) (old new : StreamState) : Type 0 where
  pub risen : HasRisen old.faults new.faults
  pub front : Text
  pub unwritten : Text
  pub is : P (front ++ unwritten)
  pub taken : Appends old.bytes new.bytes front

-- nothing was read, and a text of which P holds was written
abbrev pub OnlyWrites : (Text → Type 0) → Outside → Outside → Type 0
OnlyWrites P old new = (new.source ≡ old.source) × TakesSome P old.sink new.sink

-- nothing was read, and the sink failed within such a text
abbrev pub OnlyBreaks : (Text → Type 0) → Outside → Outside → Type 0
OnlyBreaks P old new = (new.source ≡ old.source) × BreaksSome P old.sink new.sink
