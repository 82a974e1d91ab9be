use Rattle.std.proofs.Common.{◌≡◌, sym, subst, None}
use Rattle.daa_schedule.specs.CoreState.{CoreState}
use Rattle.daa_schedule.specs.Step.{fault_of}
use Rattle.daa_schedule.specs.Core.{state_of}
use Rattle.daa_schedule.specs.declared.step.Step.TheVariants.{Keep}
use Rattle.daa_schedule.proofs.Fields.{keep_closes}
use Rattle.daa_schedule.proofs.core_state.Core.keep.Goals as goal

pub invariant_of-self : goal.invariant_of-self
invariant_of-self c = keep_closes (state_of c.self.inside) c.args.by c.index-hand.result.now _ _ c.self.invariant
    (subst (λ (d : CoreState). fault_of d (Keep c.args.by) ≡ None) (sym c.self.view_is) c.requires)
    c.index-hand.ensures c.rest.ensures c.first_unit.ensures
