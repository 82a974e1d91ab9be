use Rattle.std.proofs.Common.{◌≡◌, ◌<◌, ◌/◌, ◌%◌, ℕ, sym, ap, subst, ◌∙◌, arith, length}
use Rattle.daa_scan.specs.SceneState.{SceneState}
use Rattle.daa_scan.specs.Units.{group_count}
use Rattle.daa_scan.specs.Packed.{places_in_reach}
use Rattle.daa_scan.proofs.Packs.{few_groups, some_group, words_count, unit_place, unit_group, word_told}
use Rattle.daa_scan.proofs.scene.SceneAnswers.word.Goals as goal
use Rattle.daa_scan.proofs.scene.SceneAnswers.word.Goals.{Start}

pub nonzero_div-unit : goal.nonzero_div-unit
nonzero_div-unit c = let g = some_group c.self.inside.config.now in omega (arith, g, c.self.invariant.counted)

pub place_in_list-aircraft-requires : goal.place_in_list-aircraft-requires
place_in_list-aircraft-requires c =
    let g : c.self.inside.groups ≡ group_count c.args.self.now.settings = c.self.invariant.counted ∙ ap (λ (s : SceneState). group_count s.settings) c.self.view_is in
    subst (λ (n : ℕ). c.args.unit / n < length (places_in_reach c.args.self.now)) (sym g)
    (unit_place c.args.self.now c.args.unit (subst (λ (n : ℕ). c.args.unit < n) (words_count c.args.self.now) c.requires))

pub nonzero_rem-unit : goal.nonzero_rem-unit
nonzero_rem-unit c = let g = some_group c.self.inside.config.now in omega (arith, g, c.self.invariant.counted)

pub word_of_group-requires-clause-group : goal.word_of_group-requires-clause-group
word_of_group-requires-clause-group c =
    let few = few_groups c.self.inside.config.now c.self.invariant.accepted in
    let u = unit_group (record { settings = c.self.inside.config.now; picture = c.self.inside.picture.now }) c.args.unit in
    let n : c.args.unit % c.self.inside.groups < group_count c.self.inside.config.now = subst (λ (n : ℕ). c.args.unit % n < group_count c.self.inside.config.now) (sym c.self.invariant.counted) u in
    omega (arith, few, n)

pub returns-clause-value : goal.returns-clause-value
returns-clause-value c =
    (word_told (record { settings = c.self.inside.config.now; picture = c.self.inside.picture.now }) c.args.self.now c.self.view_is c.self.invariant.accepted c.self.invariant.picture
    c.self.inside.groups c.args.unit c.place_in_list-aircraft.result c.word_of_group.result c.self.invariant.counted c.requires c.place_in_list-aircraft.ensures.value c.word_of_group.ensures).0

pub returns-clause-field : goal.returns-clause-field
returns-clause-field c =
    (word_told (record { settings = c.self.inside.config.now; picture = c.self.inside.picture.now }) c.args.self.now c.self.view_is c.self.invariant.accepted c.self.invariant.picture
    c.self.inside.groups c.args.unit c.place_in_list-aircraft.result c.word_of_group.result c.self.invariant.counted c.requires c.place_in_list-aircraft.ensures.value c.word_of_group.ensures).1
