-- A flight as contracts see it: whose it is, and how many legs were taken.
use Rattle.std.specs.Prelude.{ℕ}
use Rattle.daa_config.specs.declared.config.Rates.{Rates}
use Rattle.daa_config.specs.declared.candidate.Candidate.{Candidate}
use Rattle.daa_state.specs.declared.word.Own.{Own}

-- the ownship, its rates of change, the candidate that is flown, and how many legs were taken
pub record FlightState : Type 0 where
  pub own : Own
  pub rates : Rates
  pub candidate : Candidate
  pub taken : ℕ
