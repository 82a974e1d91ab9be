use Rattle.daa_last.proofs.Searching.{IsTriedDownTo}
use Rattle.daa_last.proofs.last.last_of.Given as goal

abbrev pub invariant-loop-m : goal.invariant-loop-m
invariant-loop-m l = IsTriedDownTo l.config l.picture l.fn.kind l.horizon l.m

abbrev pub decreases-loop-m : goal.decreases-loop-m
decreases-loop-m l = l.m
