use Rattle.std.proofs.Common.{subst, sym}
use Rattle.daa_report.specs.Lines.{Text}
use Rattle.daa_replay.specs.Moment.{IsEventText}
use Rattle.daa_replay.proofs.JudgeLemmas.{compares-text}
use Rattle.daa_replay.proofs.judge.judge_event.Goals as goal

pub returns-clause-compares : goal.returns-clause-compares
returns-clause-compares g c =
    compares-text (IsEventText c.args.engine.now.settings c.args.event.now) c.text.result.now _ _ _ _ _
    (subst (λ (t : Text). IsEventText c.args.engine.now.settings c.args.event.now t) (sym c.text.ensures.value) c.sheet_event.ensures.written) c.judge_text.ensures.compares
