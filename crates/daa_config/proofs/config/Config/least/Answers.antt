use Rattle.std.proofs.Common.{◌∙◌, ℤ, ◌≤ℤ◌, rules, sym, subst, w32, FitsSigned, All, Contains}
use Rattle.std.proofs.lemmas.Int.{to_z-of_z}
use Rattle.daa_config.specs.Candidates.{values_of}
use Rattle.daa_config.proofs.GridLemmas.{first_value, none_less, contains_from, some_values}
use Rattle.daa_config.proofs.config.Config.least.Goals as goal

pub returns-clause-value : goal.returns-clause-value
returns-clause-value c =
    let f : FitsSigned w32 c.value.result = search rules in
    to_z-of_z w32 _ f ∙ first_value c.args.kind c.args.self.now _ c.value.ensures.value

pub returns-clause-listed : goal.returns-clause-listed
returns-clause-listed c =
    let f : FitsSigned w32 c.value.result = search rules in
    let k = c.args.kind in let s = c.args.self.now in
    subst (λ (z : ℤ). Contains (values_of k s) z) (sym (to_z-of_z w32 _ f)) (contains_from (values_of k s) 0 _ (some_values k s) c.value.ensures.value)

pub returns-clause-least : goal.returns-clause-least
returns-clause-least c =
    let f : FitsSigned w32 c.value.result = search rules in
    let k = c.args.kind in let s = c.args.self.now in
    let is = to_z-of_z w32 _ f ∙ first_value k s _ c.value.ensures.value in
    subst (λ (z : ℤ). All (λ v. z ≤ℤ v) (values_of k s)) (sym is) (none_less k s c.value.ensures.accepted)
