use Rattle.std.proofs.Common.{◌-◌}
use Rattle.daa_recovery.proofs.Raising.{IsHalvedOn}
use Rattle.daa_recovery.proofs.outlook.Outlook.after_last.Given as goal

abbrev pub invariant-loop-high : goal.invariant-loop-high
invariant-loop-high l = IsHalvedOn l.self l.fn.candidate l.aircraft l.volume l.fn.upto l.fn.first l.low l.high

abbrev pub decreases-loop-high : goal.decreases-loop-high
decreases-loop-high l = l.high - l.low
