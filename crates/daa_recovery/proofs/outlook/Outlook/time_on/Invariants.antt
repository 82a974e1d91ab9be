use Rattle.daa_recovery.proofs.LastLegs.{IsNeeded}
use Rattle.daa_recovery.proofs.outlook.Outlook.time_on.Given as goal

-- the aircraft so far
abbrev pub invariant-loop-place : goal.invariant-loop-place
invariant-loop-place l = IsNeeded l.self l.fn.candidate l.rest.from l.place l.need
