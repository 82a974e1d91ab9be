use Rattle.std.proofs.Common.{arith}
use Rattle.daa_recovery.proofs.Raising.{raised_met, raised_not}
use Rattle.daa_recovery.proofs.outlook.Outlook.raised.Goals as goal

pub meets-requires-clause-first : goal.meets-requires-clause-first
meets-requires-clause-first c = omega (arith, c.max-first.ensures)

pub after_last-requires-clause-first : goal.after_last-requires-clause-first
after_last-requires-clause-first c = omega (arith, c.max-first.ensures)

pub returns-then-meets : goal.returns-then-meets
returns-then-meets c = raised_met c.args.self.now c.args.candidate c.args.aircraft.now c.args.volume.now c.args.upto c.args.rest.now.from c.args.need c.max-first.result
    c.after_last.result c.max-first.ensures c.after_last.ensures.above c.after_last.ensures.raised

pub returns-else-meets : goal.returns-else-meets
returns-else-meets c = raised_not c.args.self.now c.args.candidate c.args.aircraft.now c.args.volume.now c.args.upto c.args.rest.now.from c.args.need c.max-first.result
    c.max-first.ensures (λ m. let t = c.meets.ensures.1 m in cc (t, c.if-meets.false))
