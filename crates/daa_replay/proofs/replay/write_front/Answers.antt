use Rattle.daa_replay.specs.declared.events.Progress.{Progress}
use Rattle.daa_replay.specs.Inside.Replay.{Course, course}
use Rattle.daa_replay.proofs.CourseLemmas.{breaks_fails, reaches_nothing}
use Rattle.daa_replay.proofs.replay.write_front.Goals as goal

pub returns-in_default-clause-ok : goal.returns-in_default-clause-ok
returns-in_default-clause-ok g c =
    reaches_nothing (course c.args.engine.now.settings c.args.progress.now (g.K.Sink.taken c.args.sink.now) (g.K.Sink.faults c.args.sink.now)) c.args.piece.now c.requires

pub returns-then-not-has_two_ends-clause-ok : goal.returns-then-not-has_two_ends-clause-ok
returns-then-not-has_two_ends-clause-ok g c =
    reaches_nothing (course c.args.engine.now.settings c.args.progress.now (g.K.Sink.taken c.args.sink.now) (g.K.Sink.faults c.args.sink.now)) c.args.piece.now c.requires

pub returns-in-Err-clause-err : goal.returns-in-Err-clause-err
returns-in-Err-clause-err g c =
    let progress : Progress = record {
      lines = c.write_together.new.lines;
      moments = c.write_together.new.moments;
      left = c.args.progress.now.left;
      any_refused = c.args.progress.now.any_refused;
    } in
    let old : Course = course c.args.engine.now.settings c.args.progress.now (g.K.Sink.taken c.args.sink.now) (g.K.Sink.faults c.args.sink.now) in
    let new : Course = course c.write_together.new.engine.settings progress (g.K.Sink.taken c.write_together.new.sink) (g.K.Sink.faults c.write_together.new.sink) in
    breaks_fails old new c.args.piece.now c.requires c.in-Err.ensures.cause.risen c.in-Err.ensures.cause.later c.in-Err.ensures.err
