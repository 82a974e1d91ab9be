use Rattle.std.proofs.Common.{◌∙◌, ap}
use Rattle.daa_legs.specs.FlightState.{FlightState}
use Rattle.daa_legs.specs.OwnLeg.{own_leg}
use Rattle.daa_legs.proofs.flight.present_leg.Goals as goal

pub returns-clause-value : goal.returns-clause-value
returns-clause-value c = c.next_leg.ensures.leg ∙ ap (λ (f : FlightState). own_leg f.own f.rates f.candidate f.taken) c.begin.ensures
