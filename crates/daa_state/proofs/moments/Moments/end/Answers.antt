use Rattle.daa_state.proofs.RangeLemmas.{picture-range}
use Rattle.daa_state.proofs.moments.Moments.end.Goals as goal

pub returns-clause-range : goal.returns-clause-range
returns-clause-range c =
    picture-range c.self.inside.moment c.in-Some.open c.in-Some-own.own c.put_beside.new.traffic (cc) (cc) c.put_beside.ensures.put c.put_beside.ensures.few c.self.invariant.0
