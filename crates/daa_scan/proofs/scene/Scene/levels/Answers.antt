use Rattle.std.proofs.Common.{◌≡◌, ◌+◌, ◌<◌, ℕ, sym, subst, arith, length}
use Rattle.std.specs.Prelude.{slice_index}
use Rattle.daa_config.specs.Candidates.{candidates_of}
use Rattle.daa_fixed.specs.Mask.{IsMaskOf}
use Rattle.daa_scan.specs.SceneState.{SceneState, MeetsAt}
use Rattle.daa_scan.proofs.scene.Scene.levels.Goals as goal

pub levels_from-requires-clause-short : goal.levels_from-requires-clause-short
levels_from-requires-clause-short c =
    let i : c.args.index < length (candidates_of c.self.inside.config.now) = subst (λ (s : SceneState). c.args.index < length (candidates_of s.settings)) (sym c.self.view_is) c.requires.index in
    omega (arith, i, c.total-total.ensures.value, c.total-total.ensures.few)

pub returns : goal.returns
returns c =
    let s = c.args.self.now in
    let here : c.args.index + 0 ≡ c.args.index = omega arith in
    subst (λ (n : ℕ). IsMaskOf (MeetsAt s n c.args.aircraft) (length s.settings.levels) (slice_index c.levels_from.new.masks 0)) here
    (c.levels_from.ensures.masks 0 (omega (arith, c.levels_from.ensures.length)) (subst (λ (n : ℕ). n < length (candidates_of s.settings)) (sym here) c.requires.index))
