use Rattle.std.proofs.Common.{pos, refl}
use Rattle.daa_legs.specs.Errors.{are_exact, errors_on}
use Rattle.daa_legs.proofs.Exactness.{at_exact, at_not}
use Rattle.daa_meet.proofs.now.violates_now.Goals as goal

pub returns-then-are_exact : goal.returns-then-are_exact
returns-then-are_exact c =
    at_exact c.args.leg.now c.args.leg.now c.args.volume.now (errors_on c.args.aircraft.now.bounds c.args.aircraft.now.age 0) (pos 0) (pos 1)
    c.violates.result c.are_exact.result (are_exact c.args.aircraft.now.bounds) refl c.are_exact.ensures c.if-are_exact.true c.violates.ensures

pub returns-else-are_exact : goal.returns-else-are_exact
returns-else-are_exact c =
    at_not c.args.leg.now c.args.leg.now c.args.volume.now (errors_on c.args.aircraft.now.bounds c.args.aircraft.now.age 0) (pos 0) (pos 1)
    c.may_violate.result c.are_exact.result (are_exact c.args.aircraft.now.bounds) refl c.are_exact.ensures
    c.errors_on.result c.errors_on.ensures.value c.if-are_exact.false c.may_violate.ensures
