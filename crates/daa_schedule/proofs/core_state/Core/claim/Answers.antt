use Rattle.std.proofs.Common.{◌≡◌, sym, subst, None}
use Rattle.daa_schedule.specs.CoreState.{CoreState}
use Rattle.daa_schedule.specs.Step.{fault_of}
use Rattle.daa_schedule.specs.Core.{state_of}
use Rattle.daa_schedule.specs.declared.step.Step.TheVariants.{Claim}
use Rattle.daa_schedule.proofs.Fields.{claim_closes}
use Rattle.daa_schedule.proofs.core_state.Core.claim.Goals as goal

pub invariant_of-self : goal.invariant_of-self
invariant_of-self c = claim_closes (state_of c.self.inside) c.args.by c.index-range.result.now _ _ c.self.invariant
    (subst (λ (d : CoreState). fault_of d (Claim c.args.by) ≡ None) (sym c.self.view_is) c.requires)
    c.index-range.ensures c.rest.ensures c.first_unit.ensures
