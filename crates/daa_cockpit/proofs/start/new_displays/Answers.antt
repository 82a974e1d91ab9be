use Rattle.std.proofs.Common.{◌≡◌, ◌∙◌, Ok, Some}
use Rattle.std.proofs.lemmas.List.Elements.{All-pop, All-push, All-same}
use Rattle.daa_config.specs.ConfigOf.{config_of}
use Rattle.daa_screen.specs.Story.{Story}
use Rattle.daa_cockpit.specs.declared.display.Display.{Display}
use Rattle.daa_cockpit.proofs.start.new_displays.Goals as goal

pub loop-view-preserved : goal.loop-view-preserved
loop-view-preserved c =
    let old = c.loop-view.invariant in
    let popped = All-pop (λ (screen : Story). screen ≡ c.args.feed.now.story) c.loop-view.screens.items c.pop.new.self.items (Some c.in-Some.screen) c.in-Some.ensures.items old.left in
    let made = c.in_ok-new_display.ensures in
    let OnFeed : Display → Type 0 = λ display. display.screen ≡ c.args.feed.now.story in
    let OfConfig : Display → Type 0 = λ display. config_of c.args.config.now ≡ Ok display.engine.settings in
    record {
      left = popped.0;
      screens = All-same OnFeed _ _ c.in_ok-push.ensures.items (All-push OnFeed c.loop-view.displays.items _ old.screens (made.screen ∙ popped.1));
      engines = All-same OfConfig _ _ c.in_ok-push.ensures.items (All-push OfConfig c.loop-view.displays.items _ old.engines made.engine);
    }
