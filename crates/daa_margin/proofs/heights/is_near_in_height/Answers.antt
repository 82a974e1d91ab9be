use Rattle.daa_margin.proofs.heights.is_near_in_height.Goals as goal

pub returns : goal.returns
returns c = rw (c.at.ensures.num, c.at.ensures.den) at c.may_be_near_in_height.ensures
