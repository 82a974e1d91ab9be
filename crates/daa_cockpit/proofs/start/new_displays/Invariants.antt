use Rattle.std.proofs.Common.{◌≡◌, Ok}
use Rattle.std.specs.List.{All}
use Rattle.daa_config.specs.ConfigOf.{config_of}
use Rattle.daa_cockpit.proofs.start.new_displays.Given as goal

-- the screens that are left have seen what was published, and so have those of the displays so far
abbrev pub invariant-loop-view : goal.invariant-loop-view
invariant-loop-view l = record {
  left : All (λ screen. screen ≡ l.feed.story) l.screens.items;
  screens : All (λ display. display.screen ≡ l.feed.story) l.displays.items;
  engines : All (λ display. config_of l.config ≡ Ok display.engine.settings) l.displays.items;
}
