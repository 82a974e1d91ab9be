use Rattle.std.proofs.Common.{◌∙◌, ◌-◌, ℤ, ◌≤ℤ◌, rules, arith, sym, subst, w32, FitsSigned, All, Contains}
use Rattle.std.proofs.lemmas.Int.{to_z-of_z}
use Rattle.daa_config.specs.Candidates.{values_of}
use Rattle.daa_config.proofs.GridLemmas.{last_value, none_greater, contains_from}
use Rattle.daa_config.proofs.config.Config.greatest.Goals as goal

pub returns-clause-value : goal.returns-clause-value
returns-clause-value c =
    let f : FitsSigned w32 c.value.result = search rules in
    to_z-of_z w32 _ f ∙ last_value c.args.kind c.args.self.now c.count.result _ c.count.ensures.value c.value.ensures.value

pub returns-clause-listed : goal.returns-clause-listed
returns-clause-listed c =
    let f : FitsSigned w32 c.value.result = search rules in
    let k = c.args.kind in let s = c.args.self.now in
    subst (λ (z : ℤ). Contains (values_of k s) z) (sym (to_z-of_z w32 _ f)) (contains_from (values_of k s) (c.count.result - 1) _ (omega arith) c.value.ensures.value)

pub returns-clause-greatest : goal.returns-clause-greatest
returns-clause-greatest c =
    let f : FitsSigned w32 c.value.result = search rules in
    let k = c.args.kind in let s = c.args.self.now in
    let is = to_z-of_z w32 _ f ∙ last_value k s c.count.result _ c.count.ensures.value c.value.ensures.value in
    subst (λ (z : ℤ). All (λ v. v ≤ℤ z) (values_of k s)) (sym is) (none_greater k s c.value.ensures.accepted)
