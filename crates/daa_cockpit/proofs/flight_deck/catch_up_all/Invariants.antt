use Rattle.std.proofs.Common.{◌≡◌, ◌≤◌, ◌<◌, ℕ, get_or}
use Rattle.daa_cockpit.specs.declared.display.Display.{Display}
use Rattle.daa_cockpit.specs.Inside.Shows.{ShowsAll}
use Rattle.daa_cockpit.proofs.flight_deck.catch_up_all.Given as goal

-- the displays so far show all, and the others are as they were
abbrev pub invariant-loop-display : goal.invariant-loop-display
invariant-loop-display g l =
    ((place : ℕ) (default : Display) → place < l.display-index
    → ShowsAll (get_or l.fn.displays place default).engine.settings l.feed.story (get_or l.displays place default))
    × ((place : ℕ) (default : Display) → l.display-index ≤ place → get_or l.displays place default ≡ get_or l.fn.displays place default)
