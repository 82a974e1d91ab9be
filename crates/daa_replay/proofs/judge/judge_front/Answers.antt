use Rattle.daa_ahead.specs.Bytes.{stream_state}
use Rattle.daa_replay.proofs.JudgeLemmas.{first-stopped, matches-lines, matches-nothing}
use Rattle.daa_replay.proofs.judge.judge_front.Goals as goal

pub returns-in_default-clause-ok : goal.returns-in_default-clause-ok
returns-in_default-clause-ok g c =
    matches-nothing c.args.engine.now.settings c.args.states.now c.args.progress.now c.args.comparison.now.matching
    (stream_state (g.S.Source.left c.args.source.now) (g.S.Source.faults c.args.source.now)) c.requires.between c.requires.begun c.requires.few

pub returns-in-Ok-clause-ok : goal.returns-in-Ok-clause-ok
returns-in-Ok-clause-ok g c =
    matches-lines c.args.engine.now.settings c.args.states.now c.args.progress.now c.judge_together.new.progress _ _ _ _ c.requires.between c.requires.begun
    c.judge_together.ensures.left c.in-Ok.ensures.lines c.in-Ok.ensures.ok

pub returns-in-Err-clause-err : goal.returns-in-Err-clause-err
returns-in-Err-clause-err g c =
    first-stopped c.args.engine.now.settings c.args.states.now c.args.progress.now c.in-Err.found _ _ _ _ c.requires.between c.requires.begun c.in-Err.ensures.err

pub returns-in-Err-clause-stops : goal.returns-in-Err-clause-stops
returns-in-Err-clause-stops g c = c.in-Err.ensures.err.stops
