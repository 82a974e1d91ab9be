use Rattle.std.proofs.Common.{arith}
use Rattle.daa_recovery.proofs.LastLegs.{time_found, time_none}
use Rattle.daa_recovery.proofs.outlook.Outlook.time_after.Goals as goal

pub returns-then-after-bound : goal.returns-then-after-bound
returns-then-after-bound c =
    time_found c.args.self.now c.args.candidate c.args.last c.args.bound c.max-after.result c.requires.ahead c.requires.last c.max-after.ensures c.if-after-bound.true

pub returns-else-after-bound : goal.returns-else-after-bound
returns-else-after-bound c = time_none c.args.self.now c.args.candidate c.args.last c.args.bound c.max-after.result c.requires.last c.max-after.ensures (omega (arith, c.if-after-bound.false))
