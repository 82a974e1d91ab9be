use Rattle.daa_margin.proofs.violation.is_now_near.Goals as goal

pub returns : goal.returns
returns c = rw (c.at.ensures.num, c.at.ensures.den) at c.may_be_near.ensures
