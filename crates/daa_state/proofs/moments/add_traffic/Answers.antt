use Rattle.daa_state.proofs.RangeLemmas.{with_traffic-range}
use Rattle.daa_state.proofs.moments.add_traffic.Goals as goal

pub returns-clause-range : goal.returns-clause-range
returns-clause-range c =
    with_traffic-range c.args.moment.now c.in-Some.moment c.args.traffic _ c.in-Some.is c.push.ensures.items c.requires.range
