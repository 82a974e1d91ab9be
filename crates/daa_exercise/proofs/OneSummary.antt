-- An exercise has exactly one summary.
use Rattle.std.proofs.Common.{◌≡◌, ◌∙◌, ◌+◌, ℕ, zero, suc, List, [], ◌∷◌, ◌++◌, length, map, refl, sym, ap₂, arith, subst}
use Rattle.std.specs.Prelude.{slice_index}
use Rattle.std.specs.List.{AllZip, range_with_len}
use Rattle.std.proofs.lemmas.List.{ext_get_or}
use Rattle.daa_config.specs.Candidates.{start_of}
use Rattle.daa_fixed.specs.One.{HasOne}
use Rattle.daa_config.specs.Settings.{Settings, IsAccepted}
use Rattle.daa_config.specs.declared.kind.Kind.{Kind}
use Rattle.daa_config.proofs.GreatestLemmas.{greatest_once}
use Rattle.daa_legs.specs.Alerts.{Alerts, IsAlertLevel}
use Rattle.daa_report.specs.Lines.{Text}
use Rattle.daa_state.specs.InRange.{IsPictureInRange}
use Rattle.daa_state.specs.Picture.{aircraft_of}
use Rattle.daa_state.specs.declared.word.Picture.{Picture}
use Rattle.daa_state.specs.declared.word.Traffic.{Traffic}
use Rattle.daa_engine.specs.Covered.{CoveredAt}
use Rattle.daa_bands.specs.Parts.{SplitsByEach}
use Rattle.daa_engine.specs.MomentText.{AreAircraftLines}
use Rattle.daa_engine.proofs.SomeText.{one_text}
use Rattle.daa_exercise.specs.Inside.Counting.{HasAlerts, HasShown, aircraft_in, summary_text}
use Rattle.daa_exercise.specs.Inside.Drawing.{Outputs}
use Rattle.daa_exercise.specs.Levels.{counts_of}
use Rattle.daa_exercise.specs.Moments.{moment_of}
use Rattle.daa_exercise.specs.Summary.{IsSummaryOf}
use Rattle.daa_exercise.specs.Outputs.{outputs_of}
use Rattle.daa_exercise.proofs.RangeLemmas.{moment_range}

-- ---- one moment has these levels and no others

module _ (s : Settings) (p : Picture) where
  -- the lines of the aircraft tell their levels
  alert_levels : (ts : List Traffic) (text : Text) → SplitsByEach (AreAircraftLines s p) ts text → (levels : List ℕ) × AllZip (IsAlertLevel s p.own) ts levels
  alert_levels [] text e = ([], tt)
  alert_levels (t ∷ ts) text is =
      let one = is.first_is in
      let more = alert_levels ts is.second is.second_is in
      (one.alert.level ∷ more.0, (one.alert_is.greatest, more.1))

  some_alerts : IsAccepted s → IsPictureInRange p → (levels : List ℕ) × HasAlerts s p levels
  some_alerts ok in' = let one = one_text s p ok in' in alert_levels (aircraft_of p) one.is.alerts one.is.alerts_are

  some_shown : IsAccepted s → IsPictureInRange p → (kind : Kind) → (levels : List ℕ) × HasShown s p kind levels
  some_shown ok in' kind = let bands = (one_text s p ok in').is.bands_are kind in (bands.levels, bands.shown)

  zip_once : (ts : List Traffic) (a b : List ℕ) → AllZip (IsAlertLevel s p.own) ts a → AllZip (IsAlertLevel s p.own) ts b → a ≡ b
  zip_once [] [] [] h k = refl
  zip_once [] (x ∷ a) b h k = absurd h
  zip_once [] [] (y ∷ b) h k = absurd k
  zip_once (t ∷ ts) [] b h k = absurd h
  zip_once (t ∷ ts) (x ∷ a) [] h k = absurd k
  zip_once (t ∷ ts) (x ∷ a) (y ∷ b) h k =
      ap₂ (λ (z : ℕ) (zs : List ℕ). z ∷ zs) (greatest_once (Alerts s p.own t) (length s.levels) x y h.0 k.0) (zip_once ts a b h.1 k.1)

  alerts_once : (a b : List ℕ) → HasAlerts s p a → HasAlerts s p b → a ≡ b
  alerts_once a b h k = zip_once (aircraft_of p) a b h k

  shown_once : (kind : Kind) (a b : List ℕ) → HasShown s p kind a → HasShown s p kind b → a ≡ b
  shown_once kind a b h k =
      let many : length a ≡ length b = h.each ∙ sym k.each in
      ext_get_or 0 a b many (λ i lt. greatest_once (CoveredAt s p (start_of kind s + i)) (length s.levels) (slice_index a i) (slice_index b i) (h.greatest i lt)
      (k.greatest i (let n = many in omega arith)))

-- ---- so have all moments

module _ (Has : Picture → List ℕ → Type 0) where
  some_levels : (output : Outputs) → ((time : ℕ) → (levels : List ℕ) × Has (moment_of output time) levels) → (count time : ℕ)
      → (levels : List ℕ) × SplitsByEach Has (map (moment_of output) (range_with_len time count)) levels
  some_levels output some zero time = ([], refl)
  some_levels output some (suc count) time =
      let here = some time in
      let more = some_levels output some count (time + 1) in
      (here.0 ++ more.0, record { first = here.0; second = more.0; first_is = here.1; second_is = more.1; joined = refl })

  levels_once : ((p : Picture) (a b : List ℕ) → Has p a → Has p b → a ≡ b) → (pictures : List Picture) (a b : List ℕ) → SplitsByEach Has pictures a → SplitsByEach Has pictures b → a ≡ b
  levels_once once [] a b h k = h ∙ sym k
  levels_once once (p ∷ pictures) a b h k =
      let here = once p h.first k.first h.first_is k.first_is in
      let more = levels_once once pictures h.second k.second h.second_is k.second_is in
      h.joined ∙ ap₂ (λ (x y : List ℕ). x ++ y) here more ∙ sym k.joined

-- ---- the summary

module _ (s : Settings) (seed moments : ℕ) (ok : IsAccepted s) where
  abbrev output : Outputs
  output = outputs_of seed

  abbrev pictures : List Picture
  pictures = map (moment_of output) (range_with_len 0 moments)

  alerts : (levels : List ℕ) × SplitsByEach (HasAlerts s) pictures levels
  alerts = some_levels (HasAlerts s) output (λ time. some_alerts s (moment_of output time) ok (moment_range output time)) moments 0

  shown : (kind : Kind) → (levels : List ℕ) × SplitsByEach (λ (p : Picture). HasShown s p kind) pictures levels
  shown kind = some_levels (λ p. HasShown s p kind) output (λ time. some_shown s (moment_of output time) ok (moment_range output time) kind) moments 0

  abbrev text_of : List Picture → List ℕ → (Kind → List ℕ) → Text
  text_of ps xs ys = summary_text seed moments (aircraft_in ps) (counts_of (length s.levels) xs) (λ kind. counts_of (length s.levels) (ys kind))

  text_once : (other : Text) → IsSummaryOf s seed moments other → other ≡ text_of pictures alerts.0 (λ kind. (shown kind).0)
  unfolding summary_text
  text_once other is =
      let are = subst (λ (ps : List Picture). SplitsByEach (HasAlerts s) ps is.alerts) is.pictures_are is.alerts_are in
      let a = levels_once (HasAlerts s) (alerts_once s) pictures is.alerts alerts.0 are alerts.1 in
      let there : (kind : Kind) → SplitsByEach (λ (p : Picture). HasShown s p kind) pictures (is.shown kind) = λ kind.
      subst (λ (ps : List Picture). SplitsByEach (λ (p : Picture). HasShown s p kind) ps (is.shown kind)) is.pictures_are (is.shown_are kind) in
      let b : (kind : Kind) → is.shown kind ≡ (shown kind).0 = λ kind.
      levels_once (λ p. HasShown s p kind) (λ p. shown_once s p kind) pictures (is.shown kind) (shown kind).0 (there kind) (shown kind).1 in
      is.text_is ∙ (λ i. text_of (is.pictures_are i) (a i) (λ kind. b kind i))

  pub one_summary : HasOne (IsSummaryOf s seed moments)
  unfolding summary_text
  one_summary = record {
    one = text_of pictures alerts.0 (λ kind. (shown kind).0);
    is = record {
      pictures = pictures;
      alerts = alerts.0;
      shown = λ kind. (shown kind).0;
      pictures_are = refl;
      alerts_are = alerts.1;
      shown_are = λ kind. (shown kind).1;
      text_is = refl;
    };
    only = text_once;
  }
