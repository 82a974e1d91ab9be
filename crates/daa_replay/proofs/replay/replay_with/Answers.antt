use Rattle.std.proofs.Common.{arith, rules, []}
use Rattle.daa_replay.specs.Inside.Replay.{CanReport, Course, course}
use Rattle.daa_replay.proofs.GivenLemmas.{fed_so_far}
use Rattle.daa_replay.proofs.ReplayLemmas.{passes_limit, read_fails, replays_over, write_fails}
use Rattle.daa_replay.proofs.replay.replay_with.Goals as goal

pub write_end-requires : goal.write_end-requires
write_end-requires g c =
    let m = c.in-End.ensures.moves in
    let w = m.given in
    let can : CanReport (course c.write_all.new.engine.settings c.write_all.new.progress (g.K.Sink.taken c.write_all.new.sink) (g.K.Sink.faults c.write_all.new.sink)) 0 = record {
      between = w.after;
      room = omega (arith, fed_so_far m.taken w.events c.write_all.new.progress w.after (w.gives [] [] c.begin-progress.ensures.given), m.bound, c.requires.bound);
    } in
    search (rules, can)

pub returns-in-End : goal.returns-in-End
returns-in-End g c before after =
    let m = c.in-End.ensures.moves in
    let old : Course = course c.args.engine.now.settings c.begin-progress.result (g.K.Sink.taken c.args.sink.now) (g.K.Sink.faults c.args.sink.now) in
    let mid : Course = course c.write_all.new.engine.settings c.write_all.new.progress (g.K.Sink.taken c.write_all.new.sink) (g.K.Sink.faults c.write_all.new.sink) in
    let new : Course = course c.write_end.new.engine.settings c.write_end.new.progress (g.K.Sink.taken c.write_end.new.sink) (g.K.Sink.faults c.write_end.new.sink) in
    replays_over c.args.places c.args.most before after _ _ old new c.begin-progress.ensures.given m.taken m.bound
    c.config-config.ensures.accepted c.begin-progress.ensures.refused c.write_end.result mid m.given c.write_end.ensures m.read

pub returns-in-Fault : goal.returns-in-Fault
returns-in-Fault g c before after =
    let m = c.in-Fault.ensures.moves in
    let old : Course = course c.args.engine.now.settings c.begin-progress.result (g.K.Sink.taken c.args.sink.now) (g.K.Sink.faults c.args.sink.now) in
    let new : Course = course c.write_all.new.engine.settings c.write_all.new.progress (g.K.Sink.taken c.write_all.new.sink) (g.K.Sink.faults c.write_all.new.sink) in
    read_fails c.args.places c.args.most before after _ _ old new c.begin-progress.ensures.given m.taken m.bound m.never_falls m.given m.read

pub returns-in-Limit : goal.returns-in-Limit
returns-in-Limit g c before after =
    let m = c.in-Limit.ensures.moves in
    let old : Course = course c.args.engine.now.settings c.begin-progress.result (g.K.Sink.taken c.args.sink.now) (g.K.Sink.faults c.args.sink.now) in
    let new : Course = course c.write_all.new.engine.settings c.write_all.new.progress (g.K.Sink.taken c.write_all.new.sink) (g.K.Sink.faults c.write_all.new.sink) in
    passes_limit c.args.places c.args.most before after _ _ old new c.begin-progress.ensures.given m.taken m.bound m.given m.read

pub returns-in-Stopped : goal.returns-in-Stopped
returns-in-Stopped g c before after =
    let m = c.in-Stopped.ensures.moves in
    let old : Course = course c.args.engine.now.settings c.begin-progress.result (g.K.Sink.taken c.args.sink.now) (g.K.Sink.faults c.args.sink.now) in
    let new : Course = course c.write_all.new.engine.settings c.write_all.new.progress (g.K.Sink.taken c.write_all.new.sink) (g.K.Sink.faults c.write_all.new.sink) in
    write_fails c.args.places c.args.most before after _ _ old new c.begin-progress.ensures.given m.taken m.bound c.config-config.ensures.accepted m.never_falls m.given m.read
