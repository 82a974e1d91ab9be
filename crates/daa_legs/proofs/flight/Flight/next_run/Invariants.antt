use Rattle.daa_legs.proofs.RunLemmas.{IsRunning}
use Rattle.daa_legs.proofs.flight.Flight.next_run.Given as goal

abbrev pub invariant-loop-secs : goal.invariant-loop-secs
invariant-loop-secs l = IsRunning l.fn.self l.self l.first l.secs
