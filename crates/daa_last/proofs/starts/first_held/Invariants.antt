use Rattle.daa_last.specs.Inside.Starts.{AreHeldClear}
use Rattle.daa_last.proofs.starts.first_held.Given as goal

abbrev pub invariant-loop-k : goal.invariant-loop-k
invariant-loop-k l = AreHeldClear l.config l.own l.aircraft l.volume l.k
