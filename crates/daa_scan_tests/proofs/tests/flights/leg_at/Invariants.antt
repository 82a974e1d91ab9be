use Rattle.std.proofs.Common.{◌≡◌}
use Rattle.daa_scan_tests.proofs.tests.flights.leg_at.Given as goal

abbrev pub invariant-loop : goal.invariant-loop
invariant-loop l = l.flight.taken ≡ l.counter
