use Rattle.std.proofs.Common.{ap, ◌∙◌, arith}
use Rattle.daa_scan.specs.SceneState.{SceneState}
use Rattle.daa_scan.specs.Units.{group_count}
use Rattle.daa_scan.proofs.Packs.{few_groups, some_group}
use Rattle.daa_scan.proofs.scene.Scene.groups.Goals as goal

pub returns : goal.returns
returns c =
    let some = some_group c.self.inside.config.now in
    let few = few_groups c.self.inside.config.now c.self.invariant.accepted in
    record {
      value = c.self.invariant.counted ∙ ap (λ (s : SceneState). group_count s.settings) c.self.view_is;
      some = omega (arith, c.self.invariant.counted, some);
      few = omega (arith, c.self.invariant.counted, few);
    }
