-- How far a replay has come, and what a piece makes of it.
use Rattle.std.specs.Prelude.{◌≡◌, Bool, true, List, [], ℕ, ◌≤◌, ◌<◌, ◌+◌, ◌^◌, ◌++◌, ◌||◌, false, length, take}
use Rattle.std.specs.List.{list_any}
use Rattle.daa_ahead.specs.Bytes.{ToldBytes}
use Rattle.daa_config.specs.Settings.{Settings}
use Rattle.daa_lines.specs.LinesOf.{Bytes}
use Rattle.daa_io.specs.Faults.{HasRisen}
use Rattle.daa_replay.specs.declared.lines.Event.{Event}
use Rattle.daa_replay.specs.declared.events.Progress.{Progress}
use Rattle.daa_replay.specs.declared.status.Status.{Status}
use Rattle.daa_replay.specs.declared.status.Status.TheVariants.{Accepted, Refused, SinkFault}
use Rattle.daa_replay.specs.Lines.{is_refusal, events_of}
use Rattle.daa_replay.specs.Inside.Events.{IsAfter, IsAt, IsBetween, IsFront, IsGiven}
use Rattle.daa_replay.specs.Inside.Batch.{StopsWithin, TakesTexts}

-- the engine's configuration, how far the input was read, and what the sink took and counted
pub record Course : Type 0 where
  pub settings : Settings
  pub progress : Progress
  pub taken : ToldBytes
  pub faults : ℕ

-- a course of these parts
abbrev pub course : Settings → Progress → ToldBytes → ℕ → Course
course settings progress taken faults =
    record { settings = settings; progress = progress; taken = taken; faults = faults }

-- it may be given a piece of this size
pub record CanReport (d : Course) (size : ℕ) : Type 0 where
  pub between : IsBetween d.progress
  pub room : d.progress.lines.fed + size < 2 ^ 63

-- the sink took the texts of the events of a piece up to some byte, whatever was given before it
pub record Reaches (d : Course) (piece : Bytes) (done : ℕ) (last : Bool) (e : Course) : Type 0 where
  pub same : e.settings ≡ d.settings
  pub at : IsAt (length piece) done last e.progress
  pub calm : e.faults ≡ d.faults
  pub events : List Event
  pub gives : (bytes : Bytes) (given : List Event) → IsGiven bytes given d.progress
      → IsGiven (bytes ++ take done piece) (given ++ events) e.progress
  pub refusals : e.progress.any_refused ≡ (d.progress.any_refused || list_any is_refusal events)
  pub taken : TakesTexts d.settings events d.taken e.taken

module _ (d : Course) (piece : Bytes) (last : Bool) (e : Course) where
  -- the sink took the texts of the events of the piece, whatever was given before it
  pub record Writes : Type 0 where
    pub same : e.settings ≡ d.settings
    pub after : IsAfter last e.progress
    pub calm : e.faults ≡ d.faults
    pub events : List Event
    pub gives : (bytes : Bytes) (given : List Event) → IsGiven bytes given d.progress
        → IsGiven (bytes ++ piece) (given ++ events) e.progress
    pub refusals : e.progress.any_refused ≡ (d.progress.any_refused || list_any is_refusal events)
    pub taken : TakesTexts d.settings events d.taken e.taken

  -- the sink failed within the texts of the first of these events
  pub record Breaks : Type 0 where
    pub risen : HasRisen d.faults e.faults
    pub later : d.faults ≤ e.faults
    pub events : List Event
    pub begins : (bytes : Bytes) (given : List Event) → IsGiven bytes given d.progress
        → IsFront (given ++ events) (events_of (bytes ++ piece) last)
    pub stops : StopsWithin d.settings events d.taken e.taken

-- whether the sink took all that the piece gives
abbrev pub Steps : Course → Bytes → Bool → Course → Type 0
Steps d piece true e = Writes d piece false e
Steps d piece false e = Breaks d piece false e

-- what the end of the input gives, by the status
abbrev pub EndsAs : Status → Course → Course → Type 0
EndsAs Accepted d e = Writes d [] true e × (e.progress.any_refused ≡ false)
EndsAs Refused d e = Writes d [] true e × (e.progress.any_refused ≡ true)
EndsAs SinkFault d e = Breaks d [] true e
EndsAs _ d e = ⊥
