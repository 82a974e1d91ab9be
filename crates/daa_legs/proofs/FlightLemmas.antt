-- What a running flight keeps, from leg to leg.
use Rattle.std.proofs.Common.{◌≡◌, ◌+◌, ◌<◌, arith, subst, sym, ◌∙◌}
use Rattle.daa_fixed.specs.declared.Flat.{Flat}
use Rattle.daa_fixed.specs.declared.Solid.{Solid}
use Rattle.daa_fixed.specs.Leg.{IsSolidBelow, plus}
use Rattle.daa_legs.specs.FlightState.{FlightState}
use Rattle.daa_legs.specs.Inside.FlightState.{IsFlown}
use Rattle.daa_legs.specs.Motion.{velocity_on}
use Rattle.daa_legs.proofs.Places.{place-next, place_on-below, velocity_on-below}

module _ (flight : FlightState) (place : Solid) (present : Flat) (flown : IsFlown flight place present) where
  pub flown-place : IsSolidBelow 20000000 place
  flown-place =
      let r = flown.in_range in
      subst (λ (x : Solid). IsSolidBelow 20000000 x) (sym flown.at) (place_on-below flight.own flight.rates flight.candidate r.own r.rates r.candidate flight.taken r.taken)

  module _ (velocity : Solid) (is : velocity ≡ velocity_on flight.own flight.rates flight.candidate flight.taken) where
    pub flown-velocity : IsSolidBelow 20000 velocity
    flown-velocity =
        let r = flown.in_range in
        subst (λ (x : Solid). IsSolidBelow 20000 x) (sym is) (velocity_on-below flight.own flight.rates flight.candidate r.own r.rates r.candidate flight.taken)

    pub flown-next : flight.taken < 180 → (next : Solid) → next ≡ plus place velocity → IsFlown (record flight { taken = flight.taken + 1 }) next present
    flown-next left next e =
        let r = flown.in_range in
        record {
          in_range = record { own = r.own; rates = r.rates; candidate = r.candidate; taken = omega (arith, left) };
          at = e ∙ (λ i. plus (flown.at i) (is i)) ∙ place-next flight.own flight.rates flight.candidate flight.taken;
          keeps = flown.keeps;
        }
