use Rattle.std.proofs.Common.{◌-◌}
use Rattle.daa_alert.proofs.HalvingLemmas.{IsHalved}
use Rattle.daa_alert.proofs.halving.least_leg.Given as goal

abbrev pub invariant-loop-high : goal.invariant-loop-high
invariant-loop-high l = IsHalved l.config l.own l.aircraft l.volume l.low l.high l.m

abbrev pub decreases-loop-high : goal.decreases-loop-high
decreases-loop-high l = l.high - l.low
