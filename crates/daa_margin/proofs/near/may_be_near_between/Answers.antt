use Rattle.daa_margin.proofs.Cones.{near_between_is}
use Rattle.daa_margin.proofs.near.may_be_near_between.Goals as goal

pub returns : goal.returns
returns c =
    let from = c.args.from.now in
    let upto = c.args.upto.now in
    let same = near_between_is c.args.leg.now c.args.volume.now c.args.bounds.now from.num from.den upto.num upto.den from.positive upto.positive c.requires.in_order in
    ((λ t. same.0 (c.is_near_or_dips.ensures.0 t)), (λ h. c.is_near_or_dips.ensures.1 (same.1 h)))
