use Rattle.daa_margin.proofs.meeting.ends_soon.Goals as goal

pub returns : goal.returns
returns c = rw (c.at.ensures.num, c.at.ensures.den) at c.may_be_soon_by.ensures
