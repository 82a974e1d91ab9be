use Rattle.daa_margin.specs.MayViolate.{MayBeNear}
use Rattle.daa_margin.proofs.Within.{in_order, within_next, as_between}
use Rattle.daa_margin.proofs.violation.may_come_near.Goals as goal

pub may_be_near_between-requires-clause-in_order : goal.may_be_near_between-requires-clause-in_order
may_be_near_between-requires-clause-in_order c =
    rw (c.at.ensures.num, c.at.ensures.den, c.after.ensures.num, c.after.ensures.den) (in_order c.args.volume.now.tthr c.args.point.now.num c.args.point.now.den)

pub returns : goal.returns
returns c =
    let near = MayBeNear c.args.leg.now c.args.volume.now c.args.bounds.now in
    let test = rw (c.at.ensures.num, c.at.ensures.den, c.after.ensures.num, c.after.ensures.den) at c.may_be_near_between.ensures in (
      (λ k. within_next c.args.volume.now.tthr near c.args.point.now.num c.args.point.now.den (test.0 k)),
      (λ h. test.1 (as_between c.args.volume.now.tthr near c.args.point.now.num c.args.point.now.den h)),
    )
