use Rattle.std.proofs.Common.{◌≡◌, ◌+◌, ℕ, subst, arith, length}
use Rattle.std.specs.Prelude.{slice_index}
use Rattle.daa_scan.specs.Adding.{AddsLevels}
use Rattle.daa_scan.specs.SceneState.{MeetsAt}
use Rattle.daa_scan.proofs.scene.Scene.add_levels.Goals as goal

pub returns-clause-masks : goal.returns-clause-masks
returns-clause-masks c j b =
    let none : 0 + j ≡ j = omega arith in
    subst (λ (n : ℕ). AddsLevels (MeetsAt c.args.self.now n c.args.aircraft) (length c.args.self.now.settings.levels) (slice_index c.args.masks.now j)
    (slice_index c.add_from.new.masks j)) none (c.add_from.ensures.masks j b)
