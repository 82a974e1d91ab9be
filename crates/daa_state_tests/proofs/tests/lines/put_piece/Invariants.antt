use Rattle.std.proofs.Common.{◌≡◌, false, length}
use Rattle.daa_state_tests.proofs.tests.lines.put_piece.Given as goal

abbrev pub invariant-rest : goal.invariant-rest
invariant-rest g l = l.lines.ended ≡ false

abbrev pub decreases-rest : goal.decreases-rest
decreases-rest g l = length l.rest
