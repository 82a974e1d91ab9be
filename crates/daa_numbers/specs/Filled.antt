-- What the numbers that are filled in say.
use Rattle.std.specs.Prelude.{◌≡◌, ◌<◌, ℕ, ℤ, pos, negsuc, List, slice_index, Option, Some, None}
use Rattle.daa_alert.specs.Alert.{IsAlertOf}
use Rattle.daa_alert.specs.declared.aircraft_alert.Alert.{Alert}
use Rattle.daa_bands.specs.Board.{HasLevelOn}
use Rattle.daa_bands.specs.declared.band.Band.{Band}
use Rattle.daa_fixed.specs.Mask.{IsGreatestLevel}
use Rattle.daa_config.specs.Settings.{Settings}
use Rattle.daa_config.specs.declared.candidate.Resolution.{Resolution}
use Rattle.daa_config.specs.declared.candidate.Resolution.TheVariants.{Keep, To, Nothing}
use Rattle.daa_legs.specs.Alerts.{IsNowLevel}
use Rattle.daa_recovery.specs.declared.recovery.Recovery.{Recovery}
use Rattle.daa_state.specs.declared.word.Own.{Own}
use Rattle.daa_state.specs.declared.word.Traffic.{Traffic}
use Rattle.daa_numbers.specs.declared.alerts.DaaAlert.{DaaAlert}
use Rattle.daa_numbers.specs.declared.banding.DaaBand.{DaaBand}
use Rattle.daa_numbers.specs.declared.resolving.DaaResolution.{DaaResolution}
use Rattle.daa_numbers.specs.declared.last_times.DaaLast.{DaaLast}
use Rattle.daa_numbers.specs.declared.recovering.DaaRecovery.{DaaRecovery}

-- the number of a leg; -1 if there is none
abbrev pub leg_by : Option ℕ → ℤ
leg_by (Some n) = pos n
leg_by None = negsuc 0

-- the level now and the alert of an aircraft
pub record IsFilledAlert (settings : Settings) (own : Own) (aircraft : Traffic) (filled : DaaAlert) : Type 0 where
  pub now : IsNowLevel settings own aircraft filled.now
  pub alert : Alert
  pub is : IsAlertOf settings own aircraft alert
  pub level : filled.level ≡ alert.level
  pub first : filled.first ≡ leg_by alert.first

-- levels of so many candidates, in the order of the whole list: the greatest, up to top, that a board shows
abbrev pub AreLevelsOn : List ℕ → (top count : ℕ) → List ℕ → Type 0
AreLevelsOn board top count levels = (index : ℕ) → index < count → IsGreatestLevel (HasLevelOn board index) top (slice_index levels index)

-- the band of a caller's numbers
abbrev pub band_of : DaaBand → Band
band_of b = record { from = b.from; upto = b.upto; level = b.level }

-- the numbers of the answer on a side
abbrev pub resolution_by : Resolution → DaaResolution
resolution_by Keep = record { what = pos 0; value = pos 0 }
resolution_by (To value) = record { what = pos 1; value = value }
resolution_by Nothing = record { what = pos 2; value = pos 0 }

-- the numbers of a recovery
abbrev pub recovery_by : Option Recovery → DaaRecovery
recovery_by None = record { found = pos 0; after = 0; value = pos 0 }
recovery_by (Some r) = record { found = pos 1; after = r.after; value = r.value }

-- the numbers of a last time, in seconds
abbrev pub last_by : Option ℕ → DaaLast
last_by None = record { found = pos 0; after = 0 }
last_by (Some m) = record { found = pos 1; after = m }
