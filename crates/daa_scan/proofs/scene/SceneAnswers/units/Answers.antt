use Rattle.std.proofs.Common.{◌≡◌, ◌≤◌, ◌*◌, sym, ap, subst, ◌∙◌, arith}
use Rattle.std.proofs.lemmas.Nat.{mul-le}
use Rattle.daa_scan.specs.SceneState.{SceneState}
use Rattle.daa_scan.specs.Units.{group_count, AreWordsOf}
use Rattle.daa_scan.specs.Packed.{words_of}
use Rattle.daa_scan.specs.Reach.{NoneIsMetOutOfReach}
use Rattle.daa_scan.proofs.Reaching.{none_is_met_out_of_reach}
use Rattle.daa_scan.proofs.Packs.{few_groups, words_count, are_words}
use Rattle.daa_scan.proofs.scene.SceneAnswers.units.Goals as goal

pub overflow_mul-result : goal.overflow_mul-result
overflow_mul-result c =
    let few : c.self.inside.groups ≤ 159 = let g = few_groups c.self.inside.config.now c.self.invariant.accepted in omega (arith, g, c.self.invariant.counted) in
    let m = mul-le c.self.inside.groups c.count_in_reach.result 159 64 few c.count_in_reach.ensures.few in
    omega (arith, m)

pub returns-clause-few : goal.returns-clause-few
returns-clause-few c =
    let few : c.self.inside.groups ≤ 159 = let g = few_groups c.self.inside.config.now c.self.invariant.accepted in omega (arith, g, c.self.invariant.counted) in
    mul-le c.self.inside.groups c.count_in_reach.result 159 64 few c.count_in_reach.ensures.few

pub returns-clause-value : goal.returns-clause-value
returns-clause-value c =
    let g : c.self.inside.groups ≡ group_count c.args.self.now.settings = c.self.invariant.counted ∙ ap (λ (s : SceneState). group_count s.settings) c.self.view_is in
    (λ i. g i * c.count_in_reach.ensures.listed i) ∙ sym (words_count c.args.self.now)

pub returns-clause-words : goal.returns-clause-words
returns-clause-words c = subst (λ (s : SceneState). AreWordsOf s (words_of s)) c.self.view_is
    (are_words (record { settings = c.self.inside.config.now; picture = c.self.inside.picture.now }) c.self.invariant.accepted c.self.invariant.picture)

pub returns-clause-reach : goal.returns-clause-reach
returns-clause-reach c = subst (λ (s : SceneState). NoneIsMetOutOfReach s) c.self.view_is
    (none_is_met_out_of_reach (record { settings = c.self.inside.config.now; picture = c.self.inside.picture.now }) c.self.invariant.accepted c.self.invariant.picture)
