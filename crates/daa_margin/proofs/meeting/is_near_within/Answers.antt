use Rattle.daa_margin.proofs.Deciding.{to_last}
use Rattle.daa_margin.proofs.meeting.is_near_within.Goals as goal

pub may_be_near_between-requires-clause-in_order : goal.may_be_near_between-requires-clause-in_order
may_be_near_between-requires-clause-in_order c =
    rw (c.at.ensures.num, c.at.ensures.den, c.at-2.ensures.num, c.at-2.ensures.den) (to_last c.args.leg.now c.args.volume.now c.args.bounds.now c.args.first.now c.args.last.now c.requires.window)

pub returns : goal.returns
returns c = rw (c.at.ensures.num, c.at.ensures.den, c.at-2.ensures.num, c.at-2.ensures.den) at c.may_be_near_between.ensures
