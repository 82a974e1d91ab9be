use Rattle.std.proofs.Common.{◌≡◌, ◌<◌, ◌+◌, ℕ, sym, subst, Some, length}
use Rattle.std.specs.Prelude.{slice_get, slice_index}
use Rattle.daa_state.specs.Picture.{aircraft_of}
use Rattle.daa_scan.specs.Adding.{AddsLevels}
use Rattle.daa_scan.specs.SceneState.{SceneState, MeetsAt}
use Rattle.daa_scan.specs.Reach.{IsInReachAt}
use Rattle.daa_scan.proofs.SceneMasks.{masks_at, adds_none, idle_at, traffic_in_range}
use Rattle.daa_scan.proofs.scene.Scene.add_from.Goals as goal

pub invariant_of-encounter : goal.invariant_of-encounter
invariant_of-encounter c =
    let there : slice_get (aircraft_of c.self.inside.picture.now) c.args.aircraft ≡ Some c.aircraft-met.result.now = subst
    (λ (s : SceneState). slice_get (aircraft_of s.picture) c.args.aircraft ≡ Some c.aircraft-met.result.now) (sym c.self.view_is) c.aircraft-met.ensures in
    record {
      there = c.traffic_now.ensures;
      known = record {
        own_in_range = c.self.invariant.picture.own;
        aircraft_in_range = traffic_in_range c.self.inside.picture.now c.args.aircraft c.aircraft-met.result.now c.self.invariant.picture there;
        leg = c.self.invariant.present;
        leg_in_range = c.self.invariant.in_range;
      };
    }

pub mark_levels-requires-clause-trunks : goal.mark_levels-requires-clause-trunks
mark_levels-requires-clause-trunks c =
    let there : slice_get (aircraft_of c.self.inside.picture.now) c.args.aircraft ≡ Some c.aircraft-met.result.now = subst
    (λ (s : SceneState). slice_get (aircraft_of s.picture) c.args.aircraft ≡ Some c.aircraft-met.result.now) (sym c.self.view_is) c.aircraft-met.ensures in
    record {
      trunks = record { leads = c.self.invariant.kept.leads; branches = c.self.invariant.kept.branches };
      idle = idle_at (record { settings = c.self.inside.config.now; picture = c.self.inside.picture.now }) c.self.inside.trunks c.args.aircraft c.aircraft-met.result.now c.self.invariant.kept there
          (subst (λ (s : SceneState). IsInReachAt s c.args.aircraft) (sym c.self.view_is) (c.in_reach.ensures.exact.0 (cc c.if-not-in_reach.false)));
    }

pub returns-clause-masks : goal.returns-clause-masks
returns-clause-masks c =
    let there : slice_get (aircraft_of c.self.inside.picture.now) c.args.aircraft ≡ Some c.aircraft-met.result.now = subst
    (λ (s : SceneState). slice_get (aircraft_of s.picture) c.args.aircraft ≡ Some c.aircraft-met.result.now) (sym c.self.view_is) c.aircraft-met.ensures in
    subst (λ (s : SceneState). (j : ℕ) → j < length c.mark_levels.new.masks → AddsLevels (MeetsAt s (c.args.first + j) c.args.aircraft) (length s.settings.levels)
    (slice_index c.args.masks.now j) (slice_index c.mark_levels.new.masks j)) c.self.view_is
    (masks_at (record { settings = c.self.inside.config.now; picture = c.self.inside.picture.now }) c.args.aircraft c.args.first
    (length c.self.inside.config.now.levels) c.aircraft-met.result.now c.args.masks.now c.mark_levels.new.masks there c.mark_levels.ensures.masks)

pub returns-then-not-in_reach-clause-masks : goal.returns-then-not-in_reach-clause-masks
returns-then-not-in_reach-clause-masks c j b = adds_none c.args.self.now c.args.aircraft (length c.args.self.now.settings.levels)
    (λ index l m. let t = c.in_reach.ensures.meets_in_reach index l m in cc (t, c.if-not-in_reach.true)) (c.args.first + j) (slice_index c.args.masks.now j)
