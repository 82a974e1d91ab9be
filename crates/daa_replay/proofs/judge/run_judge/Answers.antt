use Rattle.std.proofs.Common.{arith, refl}
use Rattle.daa_ahead.specs.Bytes.{stream_state}
use Rattle.daa_replay.specs.Outside.{Outside, outside}
use Rattle.daa_replay.proofs.RunLemmas.{same_written, difference_written}
use Rattle.daa_replay.proofs.judge.run_judge.Goals as goal

pub returns-in-Alike : goal.returns-in-Alike
returns-in-Alike g c before after =
    let old : Outside = outside before (stream_state (g.S.Source.left c.args.source.now) (g.S.Source.faults c.args.source.now))
    (stream_state (g.K.Sink.taken c.args.sink.now) (g.K.Sink.faults c.args.sink.now)) in
    let new : Outside = outside after (stream_state (g.S.Source.left c.judge_all.new.source) (g.S.Source.faults c.judge_all.new.source))
    (stream_state (g.K.Sink.taken c.write_same.new.sink) (g.K.Sink.faults c.write_same.new.sink)) in
    record {
      so = same_written c.args.engine.now.settings c.args.states.now c.args.most old new c.write_same.result c.status_of.result c.in-Alike.ensures.judged c.write_same.ensures
          c.status_of.ensures.whole c.status_of.ensures.broken;
      reads = c.in-Alike.ensures.never_falls;
      writes = c.write_same.ensures.cause.later;
    }

pub returns-in-Differs : goal.returns-in-Differs
returns-in-Differs g c before after =
    let old : Outside = outside before (stream_state (g.S.Source.left c.args.source.now) (g.S.Source.faults c.args.source.now))
    (stream_state (g.K.Sink.taken c.args.sink.now) (g.K.Sink.faults c.args.sink.now)) in
    let new : Outside = outside after (stream_state (g.S.Source.left c.judge_all.new.source) (g.S.Source.faults c.judge_all.new.source))
    (stream_state (g.K.Sink.taken c.write_differs.new.sink) (g.K.Sink.faults c.write_differs.new.sink)) in
    record {
      so = difference_written c.args.engine.now.settings c.args.states.now c.args.most c.in-Differs.line old new c.write_differs.result c.status_of-in-Differs.result
          c.in-Differs.ensures.judged c.write_differs.ensures c.status_of-in-Differs.ensures.whole c.status_of-in-Differs.ensures.broken;
      reads = c.in-Differs.ensures.never_falls;
      writes = c.write_differs.ensures.cause.later;
    }

pub returns-in-Fault : goal.returns-in-Fault
returns-in-Fault g c before after = record {
  so = record { judged = c.in-Fault.ensures.judged; sink = refl };
  reads = c.in-Fault.ensures.never_falls;
  writes = omega arith;
}

pub returns-in-Limit : goal.returns-in-Limit
returns-in-Limit g c before after = record {
  so = record { judged = c.in-Limit.ensures.judged; sink = refl };
  reads = c.in-Limit.ensures.never_falls;
  writes = omega arith;
}
