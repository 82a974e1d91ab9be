use Rattle.std.proofs.Common.{◌≡◌, sym, ap, subst, None}
use Rattle.daa_range.specs.Range.{RangeState}
use Rattle.daa_schedule.specs.CoreState.{CoreState}
use Rattle.daa_schedule.specs.Step.{fault_of}
use Rattle.daa_schedule.specs.Core.{state_of}
use Rattle.daa_schedule.specs.declared.step.Step.TheVariants.{Settle}
use Rattle.daa_schedule.proofs.Fields.{settle_closes}
use Rattle.daa_schedule.proofs.core_state.Core.settle.Goals as goal

pub invariant_of-self : goal.invariant_of-self
invariant_of-self c =
    settle_closes (state_of c.self.inside) c.args.by c.args.word _ c.index-hand.result.now _ c.self.invariant
    (subst (λ (d : CoreState). fault_of d (Settle c.args.by c.args.word) ≡ None) (sym c.self.view_is) c.requires)
    c.index-hand.ensures (ap (λ (s : RangeState). s.first) c.hand.view_is) c.new.ensures
