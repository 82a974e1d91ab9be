use Rattle.daa_recovery.proofs.LastLegs.{last_closed, last_open}
use Rattle.daa_recovery.proofs.outlook.Outlook.last_with.Goals as goal

pub returns-then-is_closed : goal.returns-then-is_closed
returns-then-is_closed c = last_closed c.args.self.now c.args.candidate c.args.k c.args.last c.requires.last c.requires.apart (c.is_closed.ensures.0 c.if-is_closed.true)

pub returns-else-is_closed : goal.returns-else-is_closed
returns-else-is_closed c = last_open c.args.self.now c.args.candidate c.args.k c.args.last c.requires.last c.requires.apart (λ x. let t = c.is_closed.ensures.1 x in cc (t, c.if-is_closed.false))
