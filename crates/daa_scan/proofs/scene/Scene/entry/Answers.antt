use Rattle.std.proofs.Common.{◌≡◌, ◌∙◌, ◌<◌, ◌≤◌, ◌+◌, ◌*◌, ◌^◌, ℕ, sym, ap, subst, arith, length}
use Rattle.daa_config.specs.Candidates.{candidates_of}
use Rattle.daa_fixed.specs.Mask.{IsMaskOf}
use Rattle.daa_state.specs.Picture.{aircraft_of}
use Rattle.daa_scan.specs.SceneState.{SceneState, MeetsAt}
use Rattle.daa_scan.specs.Packed.{entry_at}
use Rattle.daa_scan.proofs.Masking.{entry_is, entry_there, entry_past}
use Rattle.daa_scan.proofs.scene.Scene.entry.Goals as goal
use Rattle.daa_scan.proofs.scene.Scene.entry.Goals.{After-from}

abbrev shown : After-from → SceneState
shown c = record { settings = c.self.inside.config.now; picture = c.self.inside.picture.now }

there : (c : After-from) → c.args.aircraft < length (aircraft_of (shown c).picture)
there c = subst (λ (s : SceneState). c.args.aircraft < length (aircraft_of s.picture)) (sym c.self.view_is) c.requires.aircraft

here : (c : After-from) → c.args.index < length (candidates_of c.args.self.now.settings)
here c = subst (λ (s : SceneState). c.args.index < length (candidates_of s.settings)) c.self.view_is (omega (arith, c.if-index-total.true, c.total.ensures.value))

mask : (c : After-from) → IsMaskOf (MeetsAt (shown c) c.args.index c.args.aircraft) (length (shown c).settings.levels) c.args.mask
mask c = subst (λ (s : SceneState). IsMaskOf (MeetsAt s c.args.index c.args.aircraft) (length s.settings.levels) c.args.mask) (sym c.self.view_is) (c.requires.mask (here c))

value : (c : After-from) → 1 + 2 * c.from.result ≡ entry_at (shown c) c.args.aircraft c.args.index
value c =
    let small : c.args.mask < 2 ^ 8 = omega (arith, c.ranges.mask.fits) in
    ap (λ (m : ℕ). 1 + 2 * m) c.from.ensures
    ∙ entry_is (shown c) c.self.invariant.accepted c.self.invariant.picture c.args.aircraft c.args.index c.args.mask
    (omega (arith, c.if-index-total.true, c.total.ensures.value)) (there c) small (mask c)

pub returns-then-index-total-clause-value : goal.returns-then-index-total-clause-value
returns-then-index-total-clause-value c = subst (λ (s : SceneState). 1 + 2 * c.from.result ≡ entry_at s c.args.aircraft c.args.index) c.self.view_is (value c)

pub returns-then-index-total-clause-small : goal.returns-then-index-total-clause-small
returns-then-index-total-clause-small c =
    let e = entry_there (shown c) c.self.invariant.accepted c.self.invariant.picture c.args.aircraft c.args.index (omega (arith, c.if-index-total.true, c.total.ensures.value)) (there c) in
    let v = value c in
    omega (arith, v, e.is, e.small)

pub returns-else-index-total-clause-value : goal.returns-else-index-total-clause-value
returns-else-index-total-clause-value c =
    let over : length (candidates_of c.self.inside.config.now) ≤ c.args.index = omega (arith, c.if-index-total.false, c.total.ensures.value) in
    sym (subst (λ (s : SceneState). entry_at s c.args.aircraft c.args.index ≡ 0) c.self.view_is
    (entry_past (record { settings = c.self.inside.config.now; picture = c.self.inside.picture.now }) c.args.aircraft c.args.index over))
