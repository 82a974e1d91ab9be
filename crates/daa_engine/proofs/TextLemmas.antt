-- What is written of a moment is its text.
use Rattle.std.proofs.Common.{◌≡◌, ◌<◌, ℕ, suc, Bool, true, false, List, [], ◌∷◌, length, refl, sym, subst, arith, slice_index_or}
use Rattle.std.specs.Prelude.{ℤ, not, ◌&&◌, IsTrue, Option, Some, None, option_map, is_some, Result}
use Rattle.std.specs.List.{flat_map, zip}
use Rattle.daa_config.specs.Settings.{Settings, IsAccepted}
use Rattle.daa_config.specs.declared.candidate.Resolution.{Resolution}
use Rattle.daa_config.specs.declared.candidate.Resolution.TheVariants.{Keep, To, Nothing}
use Rattle.daa_config.specs.declared.kind.Kind.{Kind}
use Rattle.daa_state.specs.Picture.{aircraft_of}
use Rattle.daa_state.specs.declared.word.Picture.{Picture}
use Rattle.daa_state.specs.declared.word.Traffic.{Traffic}
use Rattle.daa_bands.specs.Board.{HasLevelOn, IsBoardOf}
use Rattle.daa_bands.specs.KindBands.{AreKindBands}
use Rattle.daa_bands.specs.Walk.{bands_left}
use Rattle.daa_bands.proofs.KindLemmas.{bands_covered}
use Rattle.daa_bands.proofs.WalkLemmas.{all_bands}
use Rattle.daa_resolve.specs.Resolution.{IsResolution}
use Rattle.daa_resolve.specs.declared.side.Side.{Side}
use Rattle.daa_resolve.specs.declared.side.Side.TheVariants.{Lower, Upper}
use Rattle.daa_resolve.proofs.BoardLemmas.{resolved}
use Rattle.daa_last.specs.Last.{IsLastTime}
use Rattle.daa_recovery.specs.Recovery.{IsRecovery}
use Rattle.daa_recovery.specs.declared.recovery.Recovery.{Recovery}
use Rattle.daa_report.specs.Lines.{last_line, recover_line}
use Rattle.daa_report.specs.Says.{Says, SaysSome}
use Rattle.daa_engine.specs.Covered.{CoveredAt}
use Rattle.daa_engine.specs.declared.alerts.AircraftAlert.{AircraftAlert}
use Rattle.daa_engine.specs.declared.findings.Finding.{Finding}
use Rattle.daa_engine.specs.declared.findings.Findings.{Findings}
use Rattle.daa_engine.specs.Inside.Findings.{IsAircraftAlert, AreAircraftAlerts, finding_of, IsLastFound, IsRecoveryFound, IsFinding, AreFindings}
use Rattle.daa_engine.specs.Inside.Findings.{is_keep, are_nothing, found_of}
use Rattle.daa_bands.specs.Parts.{SplitsByEach}
use Rattle.daa_engine.specs.MomentText.{AreAircraftLines, IsLastText, IsRecoveryText, IsMomentText}
use Rattle.daa_engine.specs.Inside.Written.{aircraft_text, alerts_text, bands_text, last_text, recovery_text, kinds_text, written}

-- ---- aircraft

alert_lines_are : (s : Settings) (p : Picture) (ts : List Traffic) (ws : List AircraftAlert) → length ws ≡ length ts
    → ((i : ℕ) (t : Traffic) (w : AircraftAlert) → i < length ts → IsAircraftAlert s p.own (slice_index_or ts i t) (slice_index_or ws i w))
    → SplitsByEach (AreAircraftLines s p) ts (flat_map aircraft_text (zip ts ws))
unfolding aircraft_text
alert_lines_are s p [] ws e h = refl
alert_lines_are s p (t ∷ ts) [] e h = absurd (omega arith)
alert_lines_are s p (t ∷ ts) (w ∷ ws) e h =
    let found = h 0 t w (omega arith) in record {
      first = aircraft_text (t, w);
      second = flat_map aircraft_text (zip ts ws);
      first_is = record { now = w.level_now; alert = w.alert; now_is = found.level_now; alert_is = found.alert; text_is = refl };
      second_is = alert_lines_are s p ts ws (omega arith) (λ i a b lt. h (suc i) a b (omega arith));
      joined = refl;
    }

-- ---- last times and recoveries

module _ (s : Settings) (p : Picture) (kind : Kind) where
  last_wanted : (asked : Bool) (lower : Resolution) (found : Option ℕ) → IsTrue (asked && not (is_keep lower))
      → IsLastTime s p kind found → IsLastText s p asked lower kind (last_line kind found)
  last_wanted false lower found w is = absurd (cc w)
  last_wanted true Keep found w is = absurd (cc w)
  last_wanted true (To z) found w is = (found, is, refl)
  last_wanted true Nothing found w is = (found, is, refl)

  last_unwanted : (asked : Bool) (lower : Resolution) → (asked && not (is_keep lower)) ≡ false → IsLastText s p asked lower kind []
  last_unwanted false lower w = refl
  last_unwanted true Keep w = refl
  last_unwanted true (To z) w = absurd (cc w)
  last_unwanted true Nothing w = absurd (cc w)

  last_line_is : (lower : Resolution) (last : Option (Option ℕ)) → IsLastFound s p kind lower last → IsLastText s p s.last_times lower kind (last_text kind last)
  last_line_is lower None h = last_unwanted s.last_times lower h
  last_line_is lower (Some found) h = last_wanted s.last_times lower found h.0 h.1

  recovery_wanted : (asked : Bool) (lower upper : Resolution) (found : Option Recovery) → IsTrue (asked && are_nothing lower upper)
      → IsRecovery s p kind found → IsRecoveryText s p asked lower upper kind (recover_line kind (option_map found_of found))
  recovery_wanted false lower upper found w is = absurd (cc w)
  recovery_wanted true Keep upper found w is = absurd (cc w)
  recovery_wanted true (To z) upper found w is = absurd (cc w)
  recovery_wanted true Nothing Keep found w is = absurd (cc w)
  recovery_wanted true Nothing (To z) found w is = absurd (cc w)
  recovery_wanted true Nothing Nothing found w is = (found, is, refl)

  recovery_unwanted : (asked : Bool) (lower upper : Resolution) → (asked && are_nothing lower upper) ≡ false → IsRecoveryText s p asked lower upper kind []
  recovery_unwanted false lower upper w = refl
  recovery_unwanted true Keep upper w = refl
  recovery_unwanted true (To z) upper w = refl
  recovery_unwanted true Nothing Keep w = refl
  recovery_unwanted true Nothing (To z) w = refl
  recovery_unwanted true Nothing Nothing w = absurd (cc w)

  recovery_line_is : (lower upper : Resolution) (recovery : Option (Option (ℕ × ℤ))) → IsRecoveryFound s p kind lower upper recovery
      → IsRecoveryText s p (is_some s.recovery) lower upper kind (recovery_text kind recovery)
  recovery_line_is lower upper None h = recovery_unwanted (is_some s.recovery) lower upper h
  recovery_line_is lower upper (Some found) h = subst
      (λ (f : Option (ℕ × ℤ)). IsRecoveryText s p (is_some s.recovery) lower upper kind (recover_line kind f))
      (sym h.1.2)
      (recovery_wanted (is_some s.recovery) lower upper h.1.0 h.0 h.1.1)

-- ---- answers

abbrev answer_on : Finding → Side → Resolution
answer_on finding Lower = finding.lower
answer_on finding Upper = finding.upper

-- ---- the board stands for what is covered

module _ (s : Settings) (p : Picture) (board : List ℕ) (is : IsBoardOf (CoveredAt s p) s board) (ok : IsAccepted s) where
  bands_are : (kind : Kind) → AreKindBands (CoveredAt s p) (length s.levels) s kind (bands_left board s kind 0)
  bands_are kind = bands_covered (CoveredAt s p) s board ok is kind (bands_left board s kind 0) (all_bands board s kind)

  answers_are : (kind : Kind) (finding : Finding) → IsFinding (HasLevelOn board) s p kind finding
      → (side : Side) → IsResolution (CoveredAt s p) s p.own kind side (answer_on finding side)
  answers_are kind finding h Lower = resolved (CoveredAt s p) s board ok is p.own kind Lower finding.lower h.lower
  answers_are kind finding h Upper = resolved (CoveredAt s p) s board ok is p.own kind Upper finding.upper h.upper

  pub moment_text : (alerts : List AircraftAlert) (findings : Findings) → AreAircraftAlerts s p.own (aircraft_of p) (length (aircraft_of p)) alerts
      → AreFindings (HasLevelOn board) s p findings → IsMomentText s p (written s p board alerts findings)
  unfolding written alerts_text bands_text kinds_text
  moment_text alerts findings w f = record {
    alerts = flat_map aircraft_text (zip (aircraft_of p) alerts);
    bands = λ kind. bands_left board s kind 0;
    answers = λ kind side. answer_on (finding_of findings kind) side;
    lasts = λ kind. last_text kind (finding_of findings kind).last;
    recoveries = λ kind. recovery_text kind (finding_of findings kind).recovery;
    alerts_are = alert_lines_are s p (aircraft_of p) alerts w.many w.each;
    bands_are = bands_are;
    answers_are = λ kind side. answers_are kind (finding_of findings kind) (f kind) side;
    lasts_are = λ kind. last_line_is s p kind (finding_of findings kind).lower (finding_of findings kind).last (f kind).last;
    recoveries_are = λ kind. recovery_line_is s p kind (finding_of findings kind).lower (finding_of findings kind).upper (finding_of findings kind).recovery (f kind).recovery;
    text_is = refl;
  }

-- ---- what was said is the moment's text, by whatever names it was found

module _ {E : Type 0} (s : Settings) (p : Picture) (board : List ℕ) (alerts : List AircraftAlert) (findings : Findings) (a b : Option (List ℕ)) (x y : ℕ)
    (r : Result (Unit {0}) E) (is : IsBoardOf (CoveredAt s p) s board) where
  abbrev Reported : Settings → List ℕ → List AircraftAlert → Type 0
  Reported s' board' slice =
      IsAccepted s' → AreAircraftAlerts s' p.own (aircraft_of p) (length (aircraft_of p)) alerts → AreFindings (HasLevelOn board') s' p findings
      → Says {E = E} a b x y (written s' p board' slice findings) r → SaysSome {E = E} (IsMomentText s p) a b x y r

  known : Reported s board alerts
  known ok w f said = (written s p board alerts findings, moment_text s p board is ok alerts findings w f, said)

  pub reported : (s' : Settings) (board' : List ℕ) (slice : List AircraftAlert) → s' ≡ s → board' ≡ board → slice ≡ alerts → Reported s' board' slice
  reported s' board' slice e f h =
      subst (λ (z : Settings). Reported z board' slice) (sym e)
      (subst (λ (z : List ℕ). Reported s z slice) (sym f)
      (subst (λ (z : List AircraftAlert). Reported s board z) (sym h) known))
