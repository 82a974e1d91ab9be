-- What is known of the ownship and one aircraft of a moment, and of both at one level.
use Rattle.std.specs.Prelude.{◌≡◌, ◌-◌, ◌≤◌, ℕ, Bool, true, IsTrue}
use Rattle.daa_config.specs.declared.candidate.Candidate.TheVariants.{Hold}
use Rattle.daa_config.specs.declared.level.Level.{Level}
use Rattle.daa_config.specs.Settings.{Settings, IsAccepted, IsLevelAt, IsLevelInRange, rates_of}
use Rattle.daa_state.specs.declared.word.Own.{Own}
use Rattle.daa_state.specs.declared.word.Traffic.{Traffic}
use Rattle.daa_state.specs.InRange.{IsOwnInRange, IsTrafficInRange}
use Rattle.daa_legs.specs.declared.own_leg.OwnLeg.{OwnLeg}
use Rattle.daa_legs.specs.OwnLeg.{own_leg, IsOwnLegInRange}
use Rattle.daa_legs.specs.Errors.{are_exact}
use Rattle.daa_scan.specs.declared.refusal.Windows.{Windows}
use Rattle.daa_scan.specs.Trunks.{AreIdle}
use Rattle.daa_scan.specs.Inside.Trunks.{Shared, AreTrunksOf}
use Rattle.daa_scan.specs.Inside.Refusal.{AreWindowsOf}
use Rattle.daa_scan.specs.Inside.Nesting.{LiesWithin}

-- the numbers of both are in range, and this is the first leg of the present flight
pub record IsEncounter (settings : Settings) (own : Own) (aircraft : Traffic) (hold : OwnLeg) : Type 0 where
  pub own_in_range : IsOwnInRange own
  pub aircraft_in_range : IsTrafficInRange aircraft
  pub leg : hold ≡ own_leg own (rates_of settings) Hold 0
  pub leg_in_range : IsOwnLegInRange hold

-- the reports are exact, level l is not the first, and it lies within the one before it
pub record IsNestedAt (settings : Settings) (aircraft : Traffic) (l : ℕ) (level : Level) : Type 0 where
  pub exact : are_exact aircraft.bounds ≡ true
  pub some : 2 ≤ l
  pub within : (outer : Level) → IsLevelAt settings (l - 1) outer → LiesWithin level outer

-- the flights that are needed are kept, and no candidate of a kind that is not needed meets the aircraft
pub record AreKeptFor (settings : Settings) (own : Own) (aircraft : Traffic) (shared : Shared) : Type 0 where
  pub trunks : AreTrunksOf settings own shared
  pub idle : AreIdle settings own aircraft shared.needs

-- it is level l; each kind violates its volume in its window alone; and where it is nested, it lies within the level before
pub record IsRound (settings : Settings) (own : Own) (aircraft : Traffic) (shared : Shared) (l : ℕ) (level : Level) (windows : Windows) (nested : Bool) : Type 0 where
  pub accepted : IsAccepted settings
  pub kept : AreKeptFor settings own aircraft shared
  pub there : IsLevelAt settings l level
  pub in_range : IsLevelInRange level
  pub few : l ≤ 8
  pub seconds : AreWindowsOf settings own aircraft level windows
  pub within : IsTrue nested → IsNestedAt settings aircraft l level
