-- The summary of an exercise.
use Rattle.std.specs.Prelude.{◌≡◌, ℕ, List, [], ◌∷◌, ◌++◌, length, map, codes}
use Rattle.std.specs.List.{AllZip, range_with_len, sum_by}
use Rattle.daa_config.specs.Settings.{Settings}
use Rattle.daa_config.specs.declared.kind.Kind.{Kind}
use Rattle.daa_state.specs.Picture.{aircraft_of}
use Rattle.daa_state.specs.declared.word.Picture.{Picture}
use Rattle.daa_legs.specs.Alerts.{IsAlertLevel}
use Rattle.daa_bands.specs.KindBands.{AreShown}
use Rattle.daa_bands.specs.Parts.{SplitsByEach}
use Rattle.daa_report.specs.Lines.{Text, kind_word, numbers_line}
use Rattle.daa_engine.specs.Covered.{CoveredAt}
use Rattle.daa_engine.specs.MomentText.{of_each}
use Rattle.daa_exercise.specs.Outputs.{outputs_of}
use Rattle.daa_exercise.specs.Moments.{moment_of}
use Rattle.daa_exercise.specs.Levels.{counts_of}

-- the summary of the first moments of a seed under a configuration: of their pictures, with the alert levels of all aircraft
-- and, for each kind, the shown levels of all candidates, the greatest at which each is covered, or 0. Its lines say the seed
-- and the number of moments; how many aircraft there were; how often each level, from 0 up to the last of the configuration,
-- was an aircraft's alert level; and how often it was the shown level of a candidate of each kind
pub record IsSummaryOf (settings : Settings) (seed moments : ℕ) (text : Text) : Type 0 where
  pub pictures : List Picture
  pub alerts : List ℕ
  pub shown : Kind → List ℕ
  pub pictures_are : pictures ≡ map (moment_of (outputs_of seed)) (range_with_len 0 moments)
  pub alerts_are : SplitsByEach (λ (picture : Picture). AllZip (IsAlertLevel settings picture.own) (aircraft_of picture)) pictures alerts
  pub shown_are : (kind : Kind)
      → SplitsByEach (λ (picture : Picture). AreShown (CoveredAt settings picture) (length settings.levels) settings kind) pictures (shown kind)
  pub text_is : text ≡ numbers_line (codes "exercise") (seed ∷ moments ∷ [])
      ++ (numbers_line (codes "aircraft") (sum_by (λ (picture : Picture). length (aircraft_of picture)) pictures ∷ [])
      ++ (numbers_line (codes "alert") (counts_of (length settings.levels) alerts)
      ++ (of_each (λ kind. numbers_line (kind_word kind) (counts_of (length settings.levels) (shown kind)))
      ++ numbers_line (codes "done") [])))
