use Rattle.std.proofs.Common.{◌-◌, cond}
use Rattle.std.specs.Prelude.{nat_lt}
use Rattle.daa_last.specs.Inside.Sides.{IsWalk}
use Rattle.daa_last.proofs.side.walk_to.Given as goal

-- walked so far
abbrev pub invariant-loop-walk : goal.invariant-loop-walk
invariant-loop-walk l = IsWalk l.config l.picture l.fn.m l.side.lead l.walk

-- no leg is left once one before `upto` is violated
abbrev pub decreases-loop-walk : goal.decreases-loop-walk
decreases-loop-walk l = cond (nat_lt l.walk.blocked l.fn.upto) 0 (l.fn.upto - l.walk.walked)
