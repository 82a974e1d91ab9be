-- What a text says is clear in truth.
use Rattle.std.proofs.Common.{◌≡◌, sym, subst, arith, ◌+◌, ◌<◌, ℕ, Bool, true, false, Some, List, [], ◌∷◌, length, inl, inr, get_or, Option}
use Rattle.std.specs.Prelude.{MatchOption, is_some, slice_get, slice_index}
use Rattle.std.specs.List.{All}
use Rattle.std.proofs.lemmas.Option.{slice_get_within, slice_get-get_or}
use Rattle.daa_config.proofs.CandidateLemmas.{candidate_at}
use Rattle.daa_config.specs.Candidates.{values_of, candidate_to, start_of}
use Rattle.daa_config.specs.Settings.{Settings, IsAccepted}
use Rattle.daa_config.specs.declared.candidate.Resolution.{Resolution}
use Rattle.daa_config.specs.declared.candidate.Resolution.TheVariants.{Keep, To, Nothing}
use Rattle.daa_config.specs.declared.kind.Kind.{Kind}
use Rattle.daa_state.specs.Picture.{aircraft_of}
use Rattle.daa_state.specs.declared.word.Picture.{Picture}
use Rattle.daa_state.specs.declared.word.Traffic.{Traffic}
use Rattle.daa_bands.specs.KindBands.{AreKindBands}
use Rattle.daa_bands.specs.Parts.{SplitsByEach}
use Rattle.daa_bands.specs.declared.band.Band.{Band}
use Rattle.daa_resolve.specs.declared.side.Side.TheVariants.{Lower, Upper}
use Rattle.daa_legs.specs.Alerts.{IsFirstLeg}
use Rattle.daa_last.specs.Last.{IsLastTime}
use Rattle.daa_recovery.specs.Recovery.{IsRecovery}
use Rattle.daa_report.specs.Lines.{Text}
use Rattle.daa_engine.specs.ClearText.{AreClearLines, IsClearBand, IsClearLastText, IsClearRecoveryText, IsClearText}
use Rattle.daa_engine.specs.Covered.{CoveredAt}
use Rattle.daa_engine.specs.MomentText.{AreAircraftLines, IsLastText, IsRecoveryText, IsMomentText}
use Rattle.daa_engine.proofs.BandLemmas.{level_in_band}
use Rattle.daa_engine.proofs.ClearLemmas.{above_clear, answer_clear, last_clear, recovery_clear, now_clear, alert_clear, first_clear}

module _ (settings : Settings) (picture : Picture) where
  lines_clear : (ts : List Traffic) (text : Text) → SplitsByEach (AreAircraftLines settings picture) ts text → SplitsByEach (AreClearLines settings picture) ts text
  lines_clear [] text e = e
  lines_clear (t ∷ ts) text s = record {
    first = s.first;
    second = s.second;
    first_is = record {
      are = s.first_is;
      now = now_clear settings picture.own t s.first_is.now s.first_is.now_is;
      alert = alert_clear settings picture.own t s.first_is.alert.level s.first_is.alert_is.greatest;
      first = λ k e. first_clear settings picture.own t s.first_is.alert.level k
          (subst (λ (o : Option ℕ). MatchOption o (s.first_is.alert.level ≡ 0) (IsFirstLeg settings picture.own t s.first_is.alert.level)) e s.first_is.alert_is.first);
    };
    second_is = lines_clear ts s.second s.second_is;
    joined = s.joined;
  }

  -- a band of the list
  pub band_clear : IsAccepted settings → (kind : Kind) (bands : List Band) → AreKindBands (CoveredAt settings picture) (length settings.levels) settings kind bands
      → (i : ℕ) (band : Band) → slice_get bands i ≡ Some band → IsClearBand settings picture kind band
  band_clear ok kind bands are i band e index value l there from upto above =
      let same = are.shown.each in
      let within = slice_get_within (values_of kind settings) index value there in
      let level = level_in_band kind settings ok are.levels same bands are.are.stretches i band e index value there from upto in
      above_clear settings picture (start_of kind settings + index) (slice_index are.levels index) l (candidate_to kind value)
      (candidate_at kind settings index value there) (are.shown.greatest index (omega (arith, same, within))) (subst (λ (n : ℕ). n < l) (sym level) above)

  pub bands_clear : IsAccepted settings → (kind : Kind) (bands : List Band) → AreKindBands (CoveredAt settings picture) (length settings.levels) settings kind bands
      → All (IsClearBand settings picture kind) bands
  bands_clear ok kind bands are i d lt = band_clear ok kind bands are i (get_or bands i d) (slice_get-get_or bands i d lt)

  last_text_clear : (asked : Bool) (lower : Resolution) (kind : Kind) (text : Text) → IsLastText settings picture asked lower kind text
      → IsClearLastText settings picture kind text
  last_text_clear false lower kind text h = inl h
  last_text_clear true Keep kind text h = inl h
  last_text_clear true (To value) kind text (found, is, says) = inr (found, says, λ m e. last_clear settings picture kind m (subst (IsLastTime settings picture kind) e is))
  last_text_clear true Nothing kind text (found, is, says) = inr (found, says, λ m e. last_clear settings picture kind m (subst (IsLastTime settings picture kind) e is))

  recovery_text_clear : (asked : Bool) (lower upper : Resolution) (kind : Kind) (text : Text) → IsRecoveryText settings picture asked lower upper kind text
      → IsClearRecoveryText settings picture kind text
  recovery_text_clear true Nothing Nothing kind text (found, is, says) = inr (found, says, λ r e. recovery_clear settings picture kind r (subst (IsRecovery settings picture kind) e is))
  recovery_text_clear true Nothing Keep kind text h = inl h
  recovery_text_clear true Nothing (To value) kind text h = inl h
  recovery_text_clear true Keep upper kind text h = inl h
  recovery_text_clear true (To value) upper kind text h = inl h
  recovery_text_clear false lower upper kind text h = inl h

  pub text_clear : IsAccepted settings → (text : Text) → IsMomentText settings picture text → IsClearText settings picture text
  text_clear ok text is = record {
    is = is;
    alerts = lines_clear (aircraft_of picture) is.alerts is.alerts_are;
    bands = λ kind. bands_clear ok kind (is.bands kind) (is.bands_are kind);
    answers = λ kind side candidate e. answer_clear settings picture kind side (is.answers kind side) candidate (is.answers_are kind side) e;
    lasts = λ kind. last_text_clear settings.last_times (is.answers kind Lower) kind (is.lasts kind) (is.lasts_are kind);
    recoveries = λ kind. recovery_text_clear (is_some settings.recovery) (is.answers kind Lower) (is.answers kind Upper) kind (is.recoveries kind) (is.recoveries_are kind);
  }
