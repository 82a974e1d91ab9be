use Rattle.std.proofs.Common.{◌≡◌}
use Rattle.daa_screen.proofs.tests.ask_often.Given as goal

-- the screen is of the same feed
abbrev pub invariant-loop : goal.invariant-loop
invariant-loop g l = l.screen.feed ≡ l.fn.screen.feed
