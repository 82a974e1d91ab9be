use Rattle.daa_cockpit.specs.Inside.Shows.{IsSameDisplay}
use Rattle.daa_cockpit.proofs.display.Display.watch.Given as goal

-- the screen is of the same feed, and the engine under the same configuration
abbrev pub invariant-loop : goal.invariant-loop
invariant-loop g l = IsSameDisplay l.fn.self l.self
