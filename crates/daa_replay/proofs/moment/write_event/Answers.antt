use Rattle.std.proofs.Common.{ℕ, [], ◌∷◌, ap, arith, length, subst}
use Rattle.std.specs.Prelude.{codes}
use Rattle.daa_report.specs.Lines.{numbers_line}
use Rattle.daa_replay.specs.declared.lines.Event.{Event}
use Rattle.daa_replay.specs.Moment.{IsEventText}
use Rattle.daa_replay.proofs.moment.write_event.Goals as goal

pub returns-in-Refused-clause-short : goal.returns-in-Refused-clause-short
returns-in-Refused-clause-short g c text is =
    let e = subst (λ (event : Event). IsEventText c.args.engine.now.settings event text) c.in-Refused.is is in
    omega (arith, ap length e, c.write_refusal.ensures.short, ap (λ (k : ℕ). length (numbers_line (codes "refused") (c.in-Refused.number ∷ k ∷ []))) c.code.ensures)
