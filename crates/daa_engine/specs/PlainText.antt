-- The text of a moment where no last times are asked for, said without a word of them; and where no recovery is asked for either,
-- said without a word of recoveries.
use Rattle.std.specs.Prelude.{◌≡◌, List, [], ◌∷◌, ◌++◌, length, is_some, codes}
use Rattle.std.specs.List.{flat_map}
use Rattle.daa_config.specs.Settings.{Settings}
use Rattle.daa_config.specs.declared.candidate.Resolution.{Resolution}
use Rattle.daa_config.specs.declared.kind.Kind.{Kind}
use Rattle.daa_state.specs.Picture.{aircraft_of}
use Rattle.daa_state.specs.declared.word.Picture.{Picture}
use Rattle.daa_bands.specs.KindBands.{AreKindBands}
use Rattle.daa_bands.specs.Parts.{SplitsByEach}
use Rattle.daa_bands.specs.declared.band.Band.{Band}
use Rattle.daa_resolve.specs.Resolution.{IsResolution}
use Rattle.daa_resolve.specs.declared.side.Side.{Side}
use Rattle.daa_resolve.specs.declared.side.Side.TheVariants.{Lower, Upper}
use Rattle.daa_report.specs.Lines.{Text, numbers_line, band_line, resolve_line}
use Rattle.daa_engine.specs.Covered.{CoveredAt}
use Rattle.daa_engine.specs.MomentText.{of_each, AreAircraftLines, IsRecoveryText}

-- its first line, the lines of the aircraft in the order of the input, the bands and then the answers of each kind, the recoveries of the
-- kinds whose two answers are nothing, and its last line
pub record IsTextWithoutLastTimes (settings : Settings) (picture : Picture) (text : Text) : Type 0 where
  pub alerts : Text
  pub bands : Kind → List Band
  pub answers : Kind → Side → Resolution
  pub recoveries : Kind → Text
  pub alerts_are : SplitsByEach (AreAircraftLines settings picture) (aircraft_of picture) alerts
  pub bands_are : (kind : Kind) → AreKindBands (CoveredAt settings picture) (length settings.levels) settings kind (bands kind)
  pub answers_are : (kind : Kind) (side : Side) → IsResolution (CoveredAt settings picture) settings picture.own kind side (answers kind side)
  pub recoveries_are : (kind : Kind)
      → IsRecoveryText settings picture (is_some settings.recovery) (answers kind Lower) (answers kind Upper) kind (recoveries kind)
  pub text_is : text ≡ numbers_line (codes "moment") (picture.time ∷ []) ++ (alerts
      ++ (of_each (λ kind. flat_map (λ band. band_line kind band.from band.upto band.level) (bands kind))
      ++ (of_each (λ kind. resolve_line kind (answers kind Lower) (answers kind Upper))
      ++ (of_each recoveries ++ numbers_line (codes "done") (picture.time ∷ [])))))

-- its first line, the lines of the aircraft in the order of the input, the bands and then the answers of each kind, and its last line
pub record IsPlainText (settings : Settings) (picture : Picture) (text : Text) : Type 0 where
  pub alerts : Text
  pub bands : Kind → List Band
  pub answers : Kind → Side → Resolution
  pub alerts_are : SplitsByEach (AreAircraftLines settings picture) (aircraft_of picture) alerts
  pub bands_are : (kind : Kind) → AreKindBands (CoveredAt settings picture) (length settings.levels) settings kind (bands kind)
  pub answers_are : (kind : Kind) (side : Side) → IsResolution (CoveredAt settings picture) settings picture.own kind side (answers kind side)
  pub text_is : text ≡ numbers_line (codes "moment") (picture.time ∷ []) ++ (alerts
      ++ (of_each (λ kind. flat_map (λ band. band_line kind band.from band.upto band.level) (bands kind))
      ++ (of_each (λ kind. resolve_line kind (answers kind Lower) (answers kind Upper))
      ++ numbers_line (codes "done") (picture.time ∷ []))))
