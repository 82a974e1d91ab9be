use Rattle.std.proofs.Common.{pos, ◌≤ℤ◌}
use Rattle.daa_last.proofs.Starting.{AreStartsBelow}
use Rattle.daa_last.proofs.starts.starts_beside.Given as goal

abbrev pub invariant-loop-l : goal.invariant-loop-l
invariant-loop-l l = record {
  so_far : AreStartsBelow l.config l.own l.aircraft l.fn.most l.l l.starts;
  from : l.config.numbers.resolve ≤ℤ pos l.l;
}
