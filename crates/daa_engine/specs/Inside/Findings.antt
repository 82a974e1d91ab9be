-- What is found of a moment before it is written.
use Rattle.std.specs.Prelude.{◌≡◌, ◌<◌, ℕ, ℤ, Bool, true, false, not, ◌&&◌, IsTrue}
use Rattle.std.specs.Prelude.{List, length, slice_index_or, Option, Some, None, option_map, is_some}
use Rattle.daa_config.specs.Settings.{Settings}
use Rattle.daa_config.specs.declared.candidate.Resolution.{Resolution}
use Rattle.daa_config.specs.declared.candidate.Resolution.TheVariants.{Keep, Nothing}
use Rattle.daa_config.specs.declared.kind.Kind.{Kind}
use Rattle.daa_config.specs.declared.kind.Kind.TheVariants.{Track, GroundSpeed, VerticalSpeed, Altitude}
use Rattle.daa_state.specs.declared.word.Own.{Own}
use Rattle.daa_state.specs.declared.word.Traffic.{Traffic}
use Rattle.daa_legs.specs.Alerts.{IsNowLevel}
use Rattle.daa_alert.specs.Alert.{IsAlertOf}
use Rattle.daa_resolve.specs.Resolution.{IsResolution}
use Rattle.daa_resolve.specs.declared.side.Side.TheVariants.{Lower, Upper}
use Rattle.daa_engine.specs.declared.alerts.AircraftAlert.{AircraftAlert}
use Rattle.daa_engine.specs.declared.findings.Finding.{Finding}
use Rattle.daa_engine.specs.declared.findings.Findings.{Findings}
use Rattle.daa_last.specs.Last.{IsLastTime}
use Rattle.daa_recovery.specs.Recovery.{IsRecovery}
use Rattle.daa_recovery.specs.declared.recovery.Recovery.{Recovery}
use Rattle.daa_state.specs.declared.word.Picture.{Picture}

-- the level now and the alert are those of the aircraft
pub record IsAircraftAlert (settings : Settings) (own : Own) (aircraft : Traffic) (found : AircraftAlert) : Type 0 where
  pub level_now : IsNowLevel settings own aircraft found.level_now
  pub alert : IsAlertOf settings own aircraft found.alert

-- they are those of the first aircraft
pub record AreAircraftAlerts (settings : Settings) (own : Own) (traffic : List Traffic) (count : ℕ) (alerts : List AircraftAlert) : Type 0 where
  pub many : length alerts ≡ count
  pub each : (i : ℕ) (t : Traffic) (w : AircraftAlert) → i < count → IsAircraftAlert settings own (slice_index_or traffic i t) (slice_index_or alerts i w)

-- what is found of a kind
abbrev pub finding_of : Findings → Kind → Finding
finding_of findings Track = findings.track
finding_of findings GroundSpeed = findings.speed
finding_of findings VerticalSpeed = findings.climb
finding_of findings Altitude = findings.height

-- the present flight may be kept
abbrev pub is_keep : Resolution → Bool
is_keep Keep = true
is_keep _ = false

-- neither side of a kind has an answer
abbrev pub are_nothing : Resolution → Resolution → Bool
are_nothing Nothing Nothing = true
are_nothing _ _ = false

-- a kind has a line of its last time: the configuration asks for it, and the present flight may not be kept
abbrev pub wants_last : Settings → Resolution → Bool
wants_last settings answer = settings.last_times && not (is_keep answer)

-- a kind has a line of its recovery: the configuration asks for it, and neither side has an answer
abbrev pub wants_recovery : Settings → Resolution → Resolution → Bool
wants_recovery settings lower upper = is_some settings.recovery && are_nothing lower upper

-- the numbers on the line of a recovery: after how many seconds, and the value
abbrev pub found_of : Recovery → ℕ × ℤ
found_of r = (r.after, r.value)

-- this is what the line of the last time of a kind with this answer says, where it has one
abbrev pub IsLastFound : Settings → Picture → Kind → Resolution → Option (Option ℕ) → Type 0
IsLastFound settings picture kind lower None = wants_last settings lower ≡ false
IsLastFound settings picture kind lower (Some found) = IsTrue (wants_last settings lower) × IsLastTime settings picture kind found

-- this is what the recovery line of a kind with these answers says, where it has one
abbrev pub IsRecoveryFound : Settings → Picture → Kind → Resolution → Resolution → Option (Option (ℕ × ℤ)) → Type 0
IsRecoveryFound settings picture kind lower upper None = wants_recovery settings lower upper ≡ false
IsRecoveryFound settings picture kind lower upper (Some found) =
    IsTrue (wants_recovery settings lower upper) × ((r : Option Recovery) × IsRecovery settings picture kind r × (found ≡ option_map found_of r))

module _ (Covered : ℕ → ℕ → Type 0) (settings : Settings) (picture : Picture) where
  -- this is found of a kind
  pub record IsFinding (kind : Kind) (finding : Finding) : Type 0 where
    pub lower : IsResolution Covered settings picture.own kind Lower finding.lower
    pub upper : IsResolution Covered settings picture.own kind Upper finding.upper
    pub last : IsLastFound settings picture kind finding.lower finding.last
    pub recovery : IsRecoveryFound settings picture kind finding.lower finding.upper finding.recovery

  -- and of all kinds
  abbrev pub AreFindings : Findings → Type 0
  AreFindings findings = (kind : Kind) → IsFinding kind (finding_of findings kind)
