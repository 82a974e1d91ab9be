-- What a running flight keeps.
use Rattle.std.specs.Prelude.{◌≡◌, ◌≤◌}
use Rattle.daa_fixed.specs.declared.Flat.{Flat}
use Rattle.daa_fixed.specs.declared.Solid.{Solid}
use Rattle.daa_heading.specs.Heading.{velocity_of}
use Rattle.daa_config.specs.Settings.{AreRatesInRange, IsCandidateInRange}
use Rattle.daa_state.specs.InRange.{IsOwnInRange}
use Rattle.daa_legs.specs.OwnLeg.{place_on}
use Rattle.daa_legs.specs.FlightState.{FlightState}

-- its values are in their ranges, and no more than 180 legs were taken
pub record IsFlightInRange (flight : FlightState) : Type 0 where
  pub own : IsOwnInRange flight.own
  pub rates : AreRatesInRange flight.rates
  pub candidate : IsCandidateInRange flight.candidate
  pub taken : flight.taken ≤ 180

-- what a running flight keeps: its place is that of the next leg, and the present way over ground
pub record IsFlown (flight : FlightState) (place : Solid) (present : Flat) : Type 0 where
  pub in_range : IsFlightInRange flight
  pub at : place ≡ place_on flight.own flight.rates flight.candidate flight.taken
  pub keeps : present ≡ velocity_of flight.own.gs flight.own.trk
