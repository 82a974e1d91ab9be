use Rattle.std.proofs.Common.{⊎_elim, arith}
use Rattle.daa_last.proofs.Openness.{blocked_closed, open_by_lead}
use Rattle.daa_last.proofs.search.closing_by_lead.Goals as goal

pub returns-then-walk-leaves-clause-closes : goal.returns-then-walk-leaves-clause-closes
returns-then-walk-leaves-clause-closes c = blocked_closed c.args.config.now c.args.picture.now c.args.m c.args.candidate c.args.side.now.lead c.requires.alone c.requires.lead
    c.args.leaves c.requires.alike c.walk_to.new.walk.blocked c.if-walk-leaves.true
    (c.walk_to.ensures.walk.blocked (omega (arith, c.if-walk-leaves.true, c.requires.leaves, c.requires.horizon)))

pub returns-else-walk-leaves-clause-closes : goal.returns-else-walk-leaves-clause-closes
returns-else-walk-leaves-clause-closes c = open_by_lead c.args.config.now c.args.picture.now c.args.m c.args.candidate c.args.side.now.lead c.requires.alone c.requires.lead
    c.args.leaves c.requires.alike c.requires.held
    (λ j lt. ⊎_elim
    (λ blocked. absurd (omega (arith, blocked, c.if-walk-leaves.false)))
    (λ walked. c.walk_to.ensures.walk.clear j (omega (arith, lt, walked)))
    c.walk_to.ensures.on)
    c.requires.rest
