use Rattle.std.proofs.Common.{◌≡◌, false}
use Rattle.daa_state_tests.proofs.tests.lines.text_of.Given as goal

abbrev pub invariant-loop-piece : goal.invariant-loop-piece
invariant-loop-piece g l = l.lines.ended ≡ false
