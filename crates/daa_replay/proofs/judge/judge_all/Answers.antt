use Rattle.daa_ahead.specs.Bytes.{StreamState, stream_state}
use Rattle.daa_replay.proofs.JudgeLemmas.{judged_stop, judged_whole}
use Rattle.daa_replay.proofs.judge.judge_all.Goals as goal

pub returns-in-Ok-clause-judged : goal.returns-in-Ok-clause-judged
returns-in-Ok-clause-judged g c =
    let first : StreamState = stream_state (g.S.Source.left c.args.source.now) (g.S.Source.faults c.args.source.now) in
    let mid : StreamState = stream_state (g.S.Source.left c.judge_states.new.source) (g.S.Source.faults c.judge_states.new.source) in
    let now : StreamState = stream_state (g.S.Source.left c.end.new.source) (g.S.Source.faults c.end.new.source) in
    let judged = judged_whole c.args.engine.now.settings c.config-config.ensures.accepted c.args.states.now c.end.result c.args.most c.new-matching.result
    c.judge_states.new.comparison.matching first mid now c.in-Ok.ensures.compares (c.new-matching.ensures.matched first) (c.end.ensures.finds c.args.most first) in
    record { report = judged.0; finds = judged.1 }

pub returns-clause-judged : goal.returns-clause-judged
returns-clause-judged g c =
    let first : StreamState = stream_state (g.S.Source.left c.args.source.now) (g.S.Source.faults c.args.source.now) in
    let now : StreamState = stream_state (g.S.Source.left c.judge_states.new.source) (g.S.Source.faults c.judge_states.new.source) in
    let judged = judged_stop c.args.engine.now.settings c.config-config.ensures.accepted c.args.states.now c.in-Err.found c.in-Err.ensures.stops c.args.most c.new-matching.result
    c.judge_states.new.comparison.matching first now c.in-Err.ensures.compares (c.new-matching.ensures.matched first) in
    record { report = judged.0; finds = judged.1 }
