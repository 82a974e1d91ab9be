use Rattle.daa_recovery.proofs.Raising.{IsRaisedBy}
use Rattle.daa_recovery.proofs.outlook.Outlook.raised_beside.Given as goal

-- raised by the levels so far
abbrev pub invariant-loop-l : goal.invariant-loop-l
invariant-loop-l l = IsRaisedBy l.self l.fn.candidate l.aircraft l.rest.from l.fn.need l.l l.raised
