-- The text of a moment.
use Rattle.std.specs.Prelude.{◌≡◌, ℕ, Bool, true, false, List, [], ◌∷◌, ◌++◌, length, Option, option_map, is_some, codes}
use Rattle.std.specs.List.{flat_map}
use Rattle.daa_config.specs.Settings.{Settings}
use Rattle.daa_config.specs.declared.candidate.Resolution.{Resolution}
use Rattle.daa_config.specs.declared.candidate.Resolution.TheVariants.{Keep, Nothing}
use Rattle.daa_config.specs.declared.kind.Kind.{Kind}
use Rattle.daa_config.specs.declared.kind.Kind.TheVariants.{Track, GroundSpeed, VerticalSpeed, Altitude}
use Rattle.daa_state.specs.Picture.{aircraft_of}
use Rattle.daa_state.specs.declared.word.Picture.{Picture}
use Rattle.daa_state.specs.declared.word.Traffic.{Traffic}
use Rattle.daa_legs.specs.Alerts.{IsNowLevel}
use Rattle.daa_alert.specs.Alert.{IsAlertOf}
use Rattle.daa_alert.specs.declared.aircraft_alert.Alert.{Alert}
use Rattle.daa_bands.specs.KindBands.{AreKindBands}
use Rattle.daa_bands.specs.Parts.{SplitsByEach}
use Rattle.daa_bands.specs.declared.band.Band.{Band}
use Rattle.daa_resolve.specs.Resolution.{IsResolution}
use Rattle.daa_resolve.specs.declared.side.Side.{Side}
use Rattle.daa_resolve.specs.declared.side.Side.TheVariants.{Lower, Upper}
use Rattle.daa_last.specs.Last.{IsLastTime}
use Rattle.daa_recovery.specs.Recovery.{IsRecovery}
use Rattle.daa_recovery.specs.declared.recovery.Recovery.{Recovery}
use Rattle.daa_report.specs.Lines.{Text, numbers_line, alert_line, band_line, resolve_line, last_line, recover_line}
use Rattle.daa_engine.specs.Covered.{CoveredAt}

-- a text for each kind, in the order of the report
abbrev pub of_each : (Kind → Text) → Text
of_each text = text Track ++ (text GroundSpeed ++ (text VerticalSpeed ++ text Altitude))

module _ (settings : Settings) (picture : Picture) where
  -- the two lines of an aircraft: its level now, and its alert with the first leg
  pub record AreAircraftLines (aircraft : Traffic) (text : Text) : Type 0 where
    pub now : ℕ
    pub alert : Alert
    pub now_is : IsNowLevel settings picture.own aircraft now
    pub alert_is : IsAlertOf settings picture.own aircraft alert
    pub text_is : text ≡ numbers_line (codes "now " ++ aircraft.id) (now ∷ []) ++ alert_line aircraft.id alert.level alert.first

  -- the line of a kind's last time, if the configuration asks for it and the present flight may not be kept; else no text (`keep` stands
  -- on both sides of a kind or on neither, so that the lower answer tells)
  abbrev pub IsLastText : (asked : Bool) → (lower : Resolution) → Kind → Text → Type 0
  IsLastText false lower kind text = text ≡ []
  IsLastText true Keep kind text = text ≡ []
  IsLastText true lower kind text = (found : Option ℕ) × IsLastTime settings picture kind found × (text ≡ last_line kind found)

  -- the line of a kind's recovery, if the configuration asks for it and neither side has an answer; else no text
  abbrev pub IsRecoveryText : (asked : Bool) → (lower upper : Resolution) → Kind → Text → Type 0
  IsRecoveryText true Nothing Nothing kind text =
      (found : Option Recovery) × IsRecovery settings picture kind found × (text ≡ recover_line kind (option_map (λ r. (r.after, r.value)) found))
  IsRecoveryText asked lower upper kind text = text ≡ []

  -- the text of the moment: its first line with its time, the lines of the aircraft in the order of the input, the bands of each kind,
  -- over the greatest levels at which its candidates are covered, the answers on the two sides of each kind, the last times of the kinds
  -- if the present flight may not be kept, the recoveries of the kinds whose two answers are nothing, and its last line with its time
  pub record IsMomentText (text : Text) : Type 0 where
    pub alerts : Text
    pub bands : Kind → List Band
    pub answers : Kind → Side → Resolution
    pub lasts : Kind → Text
    pub recoveries : Kind → Text
    pub alerts_are : SplitsByEach AreAircraftLines (aircraft_of picture) alerts
    pub bands_are : (kind : Kind) → AreKindBands (CoveredAt settings picture) (length settings.levels) settings kind (bands kind)
    pub answers_are : (kind : Kind) (side : Side) → IsResolution (CoveredAt settings picture) settings picture.own kind side (answers kind side)
    pub lasts_are : (kind : Kind) → IsLastText settings.last_times (answers kind Lower) kind (lasts kind)
    pub recoveries_are : (kind : Kind) → IsRecoveryText (is_some settings.recovery) (answers kind Lower) (answers kind Upper) kind (recoveries kind)
    pub text_is : text ≡ numbers_line (codes "moment") (picture.time ∷ []) ++ (alerts
        ++ (of_each (λ kind. flat_map (λ band. band_line kind band.from band.upto band.level) (bands kind))
        ++ (of_each (λ kind. resolve_line kind (answers kind Lower) (answers kind Upper))
        ++ (of_each lasts ++ (of_each recoveries ++ numbers_line (codes "done") (picture.time ∷ []))))))
