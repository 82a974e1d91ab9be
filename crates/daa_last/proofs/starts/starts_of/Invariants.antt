use Rattle.daa_last.proofs.Starting.{AreStartsBefore}
use Rattle.daa_last.proofs.starts.starts_of.Given as goal

abbrev pub invariant-loop-place : goal.invariant-loop-place
invariant-loop-place l = AreStartsBefore l.config l.picture l.fn.horizon l.place l.starts
