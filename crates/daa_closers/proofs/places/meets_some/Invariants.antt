use Rattle.daa_closers.proofs.Lists.{IsNoneBelow}
use Rattle.daa_closers.proofs.places.meets_some.Given as goal

abbrev pub invariant-loop-l : goal.invariant-loop-l
invariant-loop-l l = IsNoneBelow l.config l.own l.fn.candidate l.aircraft l.fn.least l.l
