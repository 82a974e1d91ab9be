use Rattle.std.proofs.Common.{◌≡◌, ◌+◌}
use Rattle.daa_scan_tests.proofs.tests.flights.has_runs.Given as goal

abbrev pub invariant-loop-length : goal.invariant-loop-length
invariant-loop-length l = l.flight.taken + l.left ≡ 180
