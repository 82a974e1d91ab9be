use Rattle.std.proofs.Common.{◌+◌, ◌-◌, length}
use Rattle.daa_replay.specs.Inside.Events.{events_at_end}
use Rattle.daa_replay.specs.Inside.Replay.{Reaches, course}
use Rattle.daa_replay.proofs.replay.write_piece.Given as goal

abbrev pub invariant-loop-progress : goal.invariant-loop-progress
invariant-loop-progress g l =
    Reaches (course l.fn.engine.settings l.fn.progress (g.K.Sink.taken l.fn.sink) (g.K.Sink.faults l.fn.sink)) l.piece l.done l.last
    (course l.engine.settings l.progress (g.K.Sink.taken l.sink) (g.K.Sink.faults l.sink))

abbrev pub decreases-loop-progress : goal.decreases-loop-progress
decreases-loop-progress g l = (length l.piece - l.done) + events_at_end l.progress.left
