use Rattle.daa_state.proofs.RangeLemmas.{picture-range}
use Rattle.daa_state.proofs.moments.end.Goals as goal

pub returns-in-Some-Some-clause-range : goal.returns-in-Some-Some-clause-range
returns-in-Some-Some-clause-range c old =
    picture-range c.args.moment.now c.in-Some-Some.field-0 c.in-Some-Some.own c.put_beside.new.traffic (cc) (cc) (cc) c.put_beside.ensures.few old
