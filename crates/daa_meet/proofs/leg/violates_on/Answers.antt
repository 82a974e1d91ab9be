use Rattle.daa_legs.specs.Errors.{are_exact, errors_on}
use Rattle.daa_legs.proofs.Exactness.{tested_exact}
use Rattle.daa_meet.proofs.leg.violates_on.Goals as goal

pub returns-then-are_exact : goal.returns-then-are_exact
returns-then-are_exact c = tested_exact _ c.args.leg.now c.args.volume.now (errors_on c.args.aircraft.now.bounds c.args.aircraft.now.age c.args.k) c.is_hit.result c.are_exact.result
    (are_exact c.args.aircraft.now.bounds) c.if-are_exact.true c.are_exact.ensures c.is_hit.ensures
