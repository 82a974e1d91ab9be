use Rattle.std.proofs.Common.{◌≡◌, ◌∙◌, ℤ, pos, ◌+ℤ◌, ◌*ℤ◌, arith, rules, sym, ap, subst, w32, FitsSigned, to_z, of_z}
use Rattle.std.proofs.lemmas.Int.{to_z-of_z}
use Rattle.daa_config.specs.Numbers.{count_of}
use Rattle.daa_config.specs.Inside.Stepped.{IsStepped}
use Rattle.daa_config.specs.Candidates.{grid_of}
use Rattle.daa_config.specs.declared.numbers.Grid.{Grid}
use Rattle.daa_config.proofs.GridLemmas.{stepped_kind, length-values, value_there, IsValueAt}
use Rattle.daa_config.proofs.config.Config.value.Goals as goal

pub value_at-requires-clause-grid : goal.value_at-requires-clause-grid
value_at-requires-clause-grid c =
    subst IsStepped (sym c.grid.ensures.value) (stepped_kind c.args.self.now c.args.kind c.grid.ensures.accepted)

pub value_at-requires-clause-within : goal.value_at-requires-clause-within
value_at-requires-clause-within c = omega (arith, length-values c.args.kind c.args.self.now, ap count_of c.grid.ensures.value)

pub returns : goal.returns
returns c =
    let k = c.args.kind in let s = c.args.self.now in
    let f : FitsSigned w32 c.value_at.result = search rules in
    let is : to_z w32 (of_z w32 c.value_at.result) ≡ (grid_of k s).min +ℤ pos c.args.i *ℤ (grid_of k s).step =
    to_z-of_z w32 _ f ∙ c.value_at.ensures ∙ ap (λ (g : Grid). g.min +ℤ pos c.args.i *ℤ g.step) c.grid.ensures.value in
    let v = subst (λ (z : ℤ). IsValueAt k s c.args.i z) (sym is) (value_there k s c.args.i c.grid.ensures.accepted c.requires) in
    record { value = v.there; within = v.within; in_range = v.in_range; accepted = c.grid.ensures.accepted }
