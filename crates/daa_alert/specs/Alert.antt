-- What is alerted of an aircraft.
use Rattle.std.specs.Prelude.{◌≡◌, MatchOption}
use Rattle.daa_config.specs.Settings.{Settings}
use Rattle.daa_state.specs.declared.word.Own.{Own}
use Rattle.daa_state.specs.declared.word.Traffic.{Traffic}
use Rattle.daa_legs.specs.Alerts.{IsAlertLevel, IsFirstLeg}
use Rattle.daa_alert.specs.declared.aircraft_alert.Alert.{Alert}

-- its level is the greatest at which the aircraft alerts, or 0; its leg is that level's first, and there is none only at level 0
pub record IsAlertOf (settings : Settings) (own : Own) (aircraft : Traffic) (alert : Alert) : Type 0 where
  pub greatest : IsAlertLevel settings own aircraft alert.level
  pub first : MatchOption alert.first (alert.level ≡ 0) (IsFirstLeg settings own aircraft alert.level)
