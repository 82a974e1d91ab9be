use Rattle.std.proofs.Common.{◌-◌}
use Rattle.daa_last.proofs.Walking.{IsWalkedLate}
use Rattle.daa_last.proofs.rest.meets_late.Given as goal

-- none of the legs so far violates
abbrev pub invariant-loop-k : goal.invariant-loop-k
invariant-loop-k l = IsWalkedLate l.config l.own l.rest.candidate l.fn.m l.aircraft l.volume l.rest.from l.place l.k

abbrev pub decreases-loop-k : goal.decreases-loop-k
decreases-loop-k l = l.fn.upto - l.k
