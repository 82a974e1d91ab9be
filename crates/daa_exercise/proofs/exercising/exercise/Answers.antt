use Rattle.std.proofs.Common.{rules}
use Rattle.daa_exercise.proofs.CountLemmas.{said}
use Rattle.daa_exercise.proofs.exercising.exercise.Goals as goal

pub returns-clause-says : goal.returns-clause-says
returns-clause-says g c =
    said c.args.engine.now.settings c.args.seed c.args.moments c.levels-top.result c.count_all-counts.result c.as_slice.result.now c.summary.result.items
    (g.K.Sink.taken c.args.sink.now) (g.K.Sink.taken c.put.new.sink) (g.K.Sink.faults c.args.sink.now) (g.K.Sink.faults c.put.new.sink) c.put.result
    c.config.ensures.accepted (search rules) c.count_all-counts.ensures.counted c.as_slice.ensures.value c.summary.ensures c.put.ensures
