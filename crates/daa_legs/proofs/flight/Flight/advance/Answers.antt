use Rattle.std.proofs.Common.{◌∙◌, ◌<◌, ap, sym, subst}
use Rattle.daa_legs.specs.FlightState.{FlightState}
use Rattle.daa_legs.specs.Motion.{velocity_on}
use Rattle.daa_legs.proofs.FlightLemmas.{flown-place, flown-velocity, flown-next}
use Rattle.daa_legs.proofs.flight.Flight.advance.Goals as goal

pub sum-self-inside-requires-clause-x : goal.sum-self-inside-requires-clause-x
sum-self-inside-requires-clause-x c = flown-place _ _ _ c.self.invariant

pub sum-self-inside-requires-clause-y : goal.sum-self-inside-requires-clause-y
sum-self-inside-requires-clause-y c = flown-velocity _ _ _ c.self.invariant _ (c.requires.velocity ∙ sym (ap (λ (f : FlightState). velocity_on f.own f.rates f.candidate f.taken) c.self.view_is))

pub invariant_of-self : goal.invariant_of-self
invariant_of-self c = flown-next _ _ _ c.self.invariant _ (c.requires.velocity ∙ sym (ap (λ (f : FlightState). velocity_on f.own f.rates f.candidate f.taken) c.self.view_is))
    (subst (λ (f : FlightState). f.taken < 180) (sym c.self.view_is) c.requires.left) _ c.sum-self-inside.ensures
