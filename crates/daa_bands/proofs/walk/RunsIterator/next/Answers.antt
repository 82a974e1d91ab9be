use Rattle.std.proofs.Common.{◌≡◌, ◌∙◌, ◌+◌, ◌∷◌, sym, arith, rules, w32, FitsSigned}
use Rattle.daa_bands.specs.Walk.{bands_left}
use Rattle.daa_bands.proofs.WalkLemmas.{first_band, no_band, goes, kept_band}
use Rattle.daa_bands.proofs.walk.RunsIterator.next.Goals as goal

pub returns-then-self-count-clause-steps : goal.returns-then-self-count-clause-steps
returns-then-self-count-clause-steps c =
    let n = no_band c.self.inside.board.now c.self.inside.config.now c.self.inside.kind c.self.inside.at c.count-count.result c.count-count.ensures.value (omega arith) in
    let e = sym c.self.view_is ∙ n in (e, e)

first : (c : goal.After-self-1) → c.args.self.now
    ≡ record { from = c.value.result; upto = c.value-2.result; level = c.shown_level-level.result }
    ∷ bands_left c.self.inside.board.now c.self.inside.config.now c.self.inside.kind (c.last_of_level-last.result + 1)
first c =
    let l = c.last_of_level-last.ensures in
    sym c.self.view_is ∙ first_band c.self.inside.board.now c.self.inside.config.now c.self.inside.kind c.start-start.result c.self.inside.at
    c.last_of_level-last.result c.count-count.result c.value.result c.value-2.result c.shown_level-level.result
    c.start-start.ensures.value c.count-count.ensures.value c.value.ensures.value c.value-2.ensures.value l.later l.within l.same l.other

pub returns-clause-steps : goal.returns-clause-steps
returns-clause-steps c =
    let f : FitsSigned w32 c.value.result = search rules in let g : FitsSigned w32 c.value-2.result = search rules in
    first c ∙ kept_band c.value.result c.value-2.result c.shown_level-level.result _ f g

pub returns-clause-goes : goal.returns-clause-goes
returns-clause-goes c = goes _ _ _ (returns-clause-steps c)
