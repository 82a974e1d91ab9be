-- The texts of the events of a piece, and what is written of them.
use Rattle.std.specs.Prelude.{◌≡◌, ◌≤◌, ◌+◌, ◌-◌, ◌++◌, All, Bool, List, length}
use Rattle.std.specs.List.{list_any}
use Rattle.std.specs.Io.KnownBytes.{Appends}
use Rattle.daa_bands.specs.Parts.{SplitsByEach}
use Rattle.daa_config.specs.Settings.{Settings}
use Rattle.daa_lines.specs.LinesOf.{Bytes}
use Rattle.daa_report.specs.Lines.{Text}
use Rattle.daa_ahead.specs.Bytes.{ToldBytes}
use Rattle.daa_replay.specs.declared.lines.Event.{Event}
use Rattle.daa_replay.specs.declared.lane.Lane.{Lane}
use Rattle.daa_replay.specs.declared.lane.Chunk.{Chunk}
use Rattle.daa_replay.specs.declared.checkpoint.Checkpoint.{Checkpoint}
use Rattle.daa_replay.specs.Lines.{is_refusal}
use Rattle.daa_replay.specs.Moment.{IsEventText}
use Rattle.daa_replay.specs.Inside.Events.{HasLines}
use Rattle.daa_replay.specs.Inside.Moment.{BeginsText}
use Rattle.daa_replay.specs.Inside.Checkpoint.{Gives, IsCheckpoint, Reading, reading_at}

-- the sink took a text of which P holds after what it had taken before
pub record AppendsSome (P : Text → Type 0) (old new : ToldBytes) : Type 0 where
  pub text : Text
  pub is : P text
  pub taken : Appends old new text

module _ (settings : Settings) where
  -- the text grew by that of the event
  abbrev pub AddsText : Event → (old new : Text) → Type 0
  AddsText event old new = (text : Text) × IsEventText settings event text × (new ≡ old ++ text)

  -- the sink took the texts of these events
  abbrev pub TakesTexts : List Event → (old new : ToldBytes) → Type 0
  TakesTexts events old new = AppendsSome (SplitsByEach (IsEventText settings) events) old new

  -- the sink took the texts of some first events, and a beginning of the next one's
  pub record StopsWithin (events : List Event) (old new : ToldBytes) : Type 0 where
    pub written : List Event
    pub later : List Event
    pub events_are : events ≡ written ++ later
    pub whole : Text
    pub texts : SplitsByEach (IsEventText settings) written whole
    pub begun : Text
    pub begins : BeginsText settings later begun
    pub taken : Appends old new (whole ++ begun)

  -- the text is that of the events from one reading of a piece to a later one, of which some is a
  -- refusal or none
  pub record Tells (piece : Bytes) (from upto : Reading) (refused : Bool) (text : Text) : Type 0 where
    pub events : List Event
    pub gives : Gives piece events from upto
    pub refusals : refused ≡ list_any is_refusal events
    pub texts : SplitsByEach (IsEventText settings) events text

  -- the text grew by that of these events
  abbrev pub AddsTexts : Bytes → (from upto : Reading) → (refused : Bool) → (old new : Text) → Type 0
  AddsTexts piece from upto refused old new =
      (text : Text) × Tells piece from upto refused text × (new ≡ old ++ text)

  -- the text is that of the events up to a place, from which it can be read on
  pub record HasTexts (piece : Bytes) (from upto : Checkpoint) (refused : Bool) (text : Text) : Type 0 where
    pub tells : Tells piece (reading_at from) (reading_at upto) refused text
    pub there : IsCheckpoint piece upto

  -- the part of the sheet is the texts of its events
  pub record IsChunk (piece : Bytes) (sheet : Text) (part : Chunk) : Type 0 where
    pub before : Text
    pub text : Text
    pub after : Text
    pub sheet_is : sheet ≡ before ++ (text ++ after)
    pub start_is : part.start ≡ length before
    pub end_is : part.end ≡ length before + length text
    pub texts : HasTexts piece part.from part.upto part.refused text

  -- each part of the lane's sheet is the texts of its events
  abbrev pub IsFilled : Bytes → Lane → Type 0
  IsFilled piece lane = All (IsChunk piece lane.sheet.text) lane.parts.items

  -- the sink took the texts of the events from one reading of a piece to a later one
  abbrev pub Shares : Bytes → (from upto : Reading) → (refused : Bool) → (old new : ToldBytes) → Type 0
  Shares piece from upto refused old new =
      (text : Text) × Tells piece from upto refused text × Appends old new text

  -- the sink failed within the texts of the events from a reading on up to some byte
  pub record Fails (piece : Bytes) (from : Reading) (old new : ToldBytes) : Type 0 where
    pub events : List Event
    pub upto : Reading
    pub within : upto.done ≤ length piece
    pub can : HasLines (length piece - upto.done) upto.lines
    pub gives : Gives piece events from upto
    pub stops : StopsWithin events old new
