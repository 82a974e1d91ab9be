-- How far the report of states was compared with what a source hands out.
use Rattle.std.specs.Prelude.{ℕ, ◌≤◌, ◌-◌, ◌++◌, true, List, [], Result, Ok, Err, ◌≡◌, ◌≢◌, IfErr, length, take}
use Rattle.daa_ahead.specs.Bytes.{StreamState}
use Rattle.daa_bands.specs.Parts.{SplitsByEach}
use Rattle.daa_config.specs.Settings.{Settings}
use Rattle.daa_judge.specs.Matching.{IsMatched, Compares}
use Rattle.daa_judge.specs.declared.found.Found.{Found}
use Rattle.daa_judge.specs.declared.found.Found.TheVariants as found
use Rattle.daa_judge.specs.declared.matching.Matching.{Matching}
use Rattle.daa_lines.specs.LinesOf.{Bytes}
use Rattle.daa_report.specs.Lines.{Text}
use Rattle.daa_replay.specs.declared.events.Progress.{Progress}
use Rattle.daa_replay.specs.declared.lines.Event.{Event}
use Rattle.daa_replay.specs.Lines.{events_of}
use Rattle.daa_replay.specs.Moment.{IsEventText}
use Rattle.daa_replay.specs.Inside.Events.{HasLines, IsAt, IsGiven}
use Rattle.daa_replay.specs.Inside.Checkpoint.{Gives, Reading}

-- what was found, where going on means that all matched
abbrev pub found_in : Result (Unit {0}) Found → Found
found_in (Ok x) = found.Alike
found_in (Err result) = result

-- where comparing is over, it found something else than that all matched
abbrev pub Stops : Result (Unit {0}) Found → Type 0
Stops result = IfErr result (λ stop. stop ≢ found.Alike)

-- some text of which P holds was compared
pub record ComparesSome (P : Text → Type 0) (result : Found) (old new : Matching)
    (source_old source_new : StreamState) : Type 0 where
  pub text : Text
  pub is : P text
  pub compares : (most : ℕ) (first : StreamState) (before : Text)
      → IsMatched most first before old source_old
      → Compares result most first before text new source_new

module _ (settings : Settings) where
  -- the texts of these events were compared
  abbrev pub ComparesTexts : List Event → Found → (old new : Matching)
      → (source_old source_new : StreamState) → Type 0
  ComparesTexts events = ComparesSome (SplitsByEach (IsEventText settings) events)

  -- the texts of the first events of these states were compared, and of all of them if they matched
  pub record ComparesFirst (states : Bytes) (result : Found) (old new : Matching)
      (source_old source_new : StreamState) : Type 0 where
    pub events : List Event
    pub later : List Event
    pub all : events_of states true ≡ events ++ later
    pub none : result ≡ found.Alike → later ≡ []
    pub compares : ComparesTexts events result old new source_old source_new

  -- the texts of the events that the first bytes of these states give were compared, and matched
  pub record Matches (states : Bytes) (done : ℕ) (p : Progress) (old new : Matching)
      (source_old source_new : StreamState) : Type 0 where
    pub at : IsAt (length states) done true p
    pub events : List Event
    pub given : IsGiven (take done states) events p
    pub compares : ComparesTexts events found.Alike old new source_old source_new

  -- the texts of the events from one reading of a piece to a later one were compared
  pub record ComparesBetween (piece : Bytes) (from upto : Reading) (result : Found)
      (old new : Matching) (source_old source_new : StreamState) : Type 0 where
    pub events : List Event
    pub gives : Gives piece events from upto
    pub compares : ComparesTexts events result old new source_old source_new

  -- comparing stopped within the texts of the events from a reading on up to some byte
  pub record StopsBetween (piece : Bytes) (from : Reading) (result : Found) (old new : Matching)
      (source_old source_new : StreamState) : Type 0 where
    pub stops : result ≢ found.Alike
    pub upto : Reading
    pub within : upto.done ≤ length piece
    pub can : HasLines (length piece - upto.done) upto.lines
    pub compared : ComparesBetween piece from upto result old new source_old source_new
