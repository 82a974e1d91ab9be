use Rattle.daa_legs.proofs.FlightLemmas.{flown-place}
use Rattle.daa_legs.proofs.flight.Flight.next_leg.Goals as goal

pub returns-clause-in_range : goal.returns-clause-in_range
returns-clause-in_range c = record { place = flown-place _ _ _ c.self.invariant; velocity = c.velocity_ahead.ensures.size }
