use Rattle.std.proofs.Common.{subst, arith}
use Rattle.daa_ahead.specs.Bytes.{StreamState, stream_state}
use Rattle.daa_lines.specs.LinesOf.{Bytes}
use Rattle.daa_replay.specs.Inside.Run.{Judges, Leaves}
use Rattle.daa_replay.specs.declared.opening.Work.TheVariants as work
use Rattle.daa_replay.specs.Outside.{Outside, outside}
use Rattle.daa_replay.proofs.RunLemmas.{by_work, exercised}
use Rattle.daa_replay.proofs.program.run_work.Goals as goal

pub returns-in-Replay : goal.returns-in-Replay
returns-in-Replay g c before after =
    by_work c.args.most c.run_replay.result c.args.ready.engine.settings c.args.ready.work (work.Replay c.in-Replay.ahead) _ _ c.in-Replay.is
    (c.run_replay.ensures before after)

pub returns-in-Exercise : goal.returns-in-Exercise
returns-in-Exercise g c before after =
    let settings = c.args.ready.engine.settings in
    let seed = c.in-Exercise.seed in
    let moments = c.in-Exercise.moments in
    let source : StreamState = stream_state (g.S.Source.left c.args.source.now) (g.S.Source.faults c.args.source.now) in
    let old : StreamState = stream_state (g.K.Sink.taken c.args.sink.now) (g.K.Sink.faults c.args.sink.now) in
    let new : StreamState = stream_state (g.K.Sink.taken c.exercise-said.new.sink) (g.K.Sink.faults c.exercise-said.new.sink) in
    let says = c.exercise-said.ensures.says in
    by_work c.args.most c.status_of.result settings c.args.ready.work (work.Exercise seed moments) (outside before source old) (outside after source new) c.in-Exercise.is
    (record {
      so = exercised settings c.args.most seed moments before after source old new says.0 c.exercise-said.result c.status_of.result says.1 says.2
          c.status_of.ensures.whole c.status_of.ensures.broken;
      reads = omega arith;
      writes = says.2.cause.later;
    })

pub returns : goal.returns
returns g c before after =
    let settings = c.args.ready.engine.settings in
    let old : Outside = outside before (stream_state (g.S.Source.left c.args.source.now) (g.S.Source.faults c.args.source.now))
    (stream_state (g.K.Sink.taken c.args.sink.now) (g.K.Sink.faults c.args.sink.now)) in
    let new : Outside = outside after (stream_state (g.S.Source.left c.run_judge.new.source) (g.S.Source.faults c.run_judge.new.source))
    (stream_state (g.K.Sink.taken c.run_judge.new.sink) (g.K.Sink.faults c.run_judge.new.sink)) in
    by_work c.args.most c.run_judge.result settings c.args.ready.work (work.Judge c.in-Judge.states c.in-Judge.sheet) old new c.in-Judge.is
    (subst (λ (states : Bytes). Leaves (Judges settings c.args.most states) c.run_judge.result old new) c.as_slice.ensures.value (c.run_judge.ensures before after))
