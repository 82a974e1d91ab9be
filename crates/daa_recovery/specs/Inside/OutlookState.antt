-- What every outlook keeps.
use Rattle.daa_taumod.specs.Volume.{IsVolumeInRange}
use Rattle.daa_config.specs.Settings.{IsAccepted}
use Rattle.daa_state.specs.InRange.{IsPictureInRange}
use Rattle.daa_recovery.specs.OutlookState.{IsHorizon, OutlookState}

-- the configuration was accepted, the moment and the cylinder are in range, and the seconds are the greatest lookahead
pub record IsOutlook (p : OutlookState) : Type 0 where
  pub accepted : IsAccepted p.settings
  pub picture : IsPictureInRange p.picture
  pub cylinder : IsVolumeInRange p.cylinder
  pub horizon : IsHorizon p.settings p.horizon
