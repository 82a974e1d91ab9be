use Rattle.daa_closers.proofs.Lists.{IsNoneMet}
use Rattle.daa_closers.proofs.shown.meets_some_aircraft.Given as goal

abbrev pub invariant-loop-place : goal.invariant-loop-place
invariant-loop-place l = IsNoneMet l.config l.picture l.fn.candidate l.fn.l l.place
