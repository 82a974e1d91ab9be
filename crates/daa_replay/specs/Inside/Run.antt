-- What the work of a run leaves at the shelf, the source and the sink, by its status.
use Rattle.std.specs.Prelude.{ℕ, ◌≤◌, true, false}
use Rattle.daa_ahead.specs.Moves.{ReadFails, PassesMost}
use Rattle.daa_config.specs.Settings.{Settings}
use Rattle.daa_exercise.specs.Summary.{IsSummaryOf}
use Rattle.daa_judge.specs.declared.found.Found.TheVariants as found
use Rattle.daa_lines.specs.LinesOf.{Bytes}
use Rattle.daa_replay.specs.declared.opening.Work.{Work}
use Rattle.daa_replay.specs.declared.opening.Work.TheVariants as work
use Rattle.daa_replay.specs.declared.status.Status.{Status}
use Rattle.daa_replay.specs.declared.status.Status.TheVariants.{Accepted, Refused, SourceFault, SinkFault, Limit}
use Rattle.daa_replay.specs.Judge.{IsSame, IsDifference, WritesNothing, BreaksJudgement}
use Rattle.daa_replay.specs.Outside.{Outside, TakesSome, OnlyWrites, OnlyBreaks}
use Rattle.daa_replay.specs.Replay.{Reports, ReportsAll, WriteFails}

module _ (settings : Settings) (most : ℕ) where
  -- what a replay leaves
  abbrev pub Replays : (ahead : ℕ) → (old new : Outside) → Status → Type 0
  Replays ahead old new Accepted = ReportsAll settings most old new false
  Replays ahead old new Refused = ReportsAll settings most old new true
  Replays ahead old new SourceFault = Reports settings most old new ReadFails false
  Replays ahead old new SinkFault = WriteFails settings most old new ahead
  Replays ahead old new Limit = Reports settings most old new (PassesMost most) false
  Replays ahead old new _ = ⊥

  -- what a comparison leaves
  abbrev pub Judges : (states : Bytes) → (old new : Outside) → Status → Type 0
  Judges states old new Accepted = TakesSome (IsSame settings most old new states) old.sink new.sink
  Judges states old new Refused = TakesSome (IsDifference settings most old new states) old.sink new.sink
  Judges states old new SourceFault = WritesNothing settings most old new found.Fault states
  Judges states old new SinkFault = BreaksJudgement settings most old new states
  Judges states old new Limit = WritesNothing settings most old new found.Limit states
  Judges states old new _ = ⊥

  -- what an exercise leaves
  abbrev pub Exercises : (seed moments : ℕ) → (old new : Outside) → Status → Type 0
  Exercises seed moments old new Accepted = OnlyWrites (IsSummaryOf settings seed moments) old new
  Exercises seed moments old new SinkFault = OnlyBreaks (IsSummaryOf settings seed moments) old new
  Exercises seed moments old new _ = ⊥

  -- what the work leaves
  abbrev pub Performs : Work → (old new : Outside) → Status → Type 0
  Performs (work.Replay ahead) = Replays ahead
  Performs (work.Exercise seed moments) = Exercises seed moments
  Performs (work.Judge states sheet) = Judges states.items

-- this is left at this status, and no count of faults fell
pub record Leaves (P : (old new : Outside) → Status → Type 0) (status : Status)
    (old new : Outside) : Type 0 where
  pub so : P old new status
  pub reads : old.source.faults ≤ new.source.faults
  pub writes : old.sink.faults ≤ new.sink.faults
