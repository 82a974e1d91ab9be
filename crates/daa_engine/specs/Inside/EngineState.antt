-- What every engine keeps.
use Rattle.std.specs.Prelude.{◌≡◌, ℕ, List, length}
use Rattle.daa_config.specs.Settings.{IsAccepted}
use Rattle.daa_legs.specs.declared.branch.Branch.{Branch}
use Rattle.daa_legs.specs.declared.own_leg.OwnLeg.{OwnLeg}
use Rattle.daa_scan.specs.Units.{most_units}
use Rattle.daa_engine.specs.EngineState.{EngineState, IsWorkerCount}

-- what holds of every engine
pub record IsEngine (engine : EngineState) : Type 0 where
  pub accepted : IsAccepted engine.settings
  pub workers : IsWorkerCount engine.workers

-- there is a word for each unit of work of every moment
abbrev pub HasWords : List ℕ → Type 0
HasWords words = length words ≡ most_units

-- there is room for the legs of eight flights that lead, and for a branch of each candidate of every configuration
abbrev pub HasFlights : (trunks : List (List OwnLeg)) → (branches : List Branch) → Type 0
HasFlights trunks branches = (length trunks ≡ 8) × (length branches ≡ 1897)
