use Rattle.daa_legs.proofs.FlightLemmas.{flown-velocity}
use Rattle.daa_legs.proofs.flight.Flight.velocity_ahead.Goals as goal

pub returns-clause-size : goal.returns-clause-size
returns-clause-size c = flown-velocity _ _ _ c.self.invariant _ c.velocity_from.ensures
