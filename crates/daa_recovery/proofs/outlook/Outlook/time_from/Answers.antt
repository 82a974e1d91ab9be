use Rattle.std.proofs.Common.{arith}
use Rattle.daa_recovery.proofs.StraightRests.{rest_at_once}
use Rattle.daa_recovery.proofs.outlook.Outlook.time_from.Goals as goal

pub time_on-requires-clause-rest : goal.time_on-requires-clause-rest
time_on-requires-clause-rest c = rest_at_once c.args.self.now c.requires.known c.args.candidate c.requires.candidate c.args.branch.now c.requires.branch c.args.place.now c.requires.leaves
    (omega (arith, c.if-branch.false)) c.requires.place
