-- Where no last times are asked for, the text of a moment has none; nor recoveries, where none is asked for.
use Rattle.std.proofs.Common.{◌≡◌, ◌∙◌, Bool, true, false, [], ◌∷◌, ◌++◌, Option, Some, None, refl, sym, ap}
use Rattle.std.specs.Prelude.{codes, is_some}
use Rattle.std.specs.List.{flat_map}
use Rattle.daa_config.specs.Settings.{Settings}
use Rattle.daa_config.specs.declared.candidate.Resolution.{Resolution}
use Rattle.daa_config.specs.declared.kind.Kind.{Kind}
use Rattle.daa_config.specs.declared.kind.Kind.TheVariants.{Track, GroundSpeed, VerticalSpeed, Altitude}
use Rattle.daa_state.specs.declared.word.Picture.{Picture}
use Rattle.daa_resolve.specs.declared.side.Side.TheVariants.{Lower, Upper}
use Rattle.daa_report.specs.Lines.{Text, numbers_line, resolve_line}
use Rattle.daa_engine.specs.MomentText.{of_each, IsLastText, IsRecoveryText, IsMomentText}
use Rattle.daa_engine.specs.Inside.Written.{line_of}
use Rattle.daa_engine.specs.PlainText.{IsPlainText, IsTextWithoutLastTimes}

-- where nothing is there, it is not asked for
not_asked : {A : Type 0} (asked : Option A) → asked ≡ None → is_some asked ≡ false
not_asked None e = refl
not_asked (Some x) e = absurd (cc e)

-- four texts without a byte are one
none_each : (texts : Kind → Text) → ((kind : Kind) → texts kind ≡ []) → of_each texts ≡ []
none_each texts none = λ i. none Track i ++ (none GroundSpeed i ++ (none VerticalSpeed i ++ none Altitude i))

module _ (s : Settings) (p : Picture) (unasked : s.last_times ≡ false) where
  -- no kind has a line of its last time
  no_last : (asked : Bool) → asked ≡ false → (answer : Resolution) (kind : Kind) (text : Text) → IsLastText s p asked answer kind text → text ≡ []
  no_last false e answer kind text is = is
  no_last true e answer kind text is = absurd (cc e)

  silent : (asked : Bool) → asked ≡ false → (answer : Resolution) (kind : Kind) → IsLastText s p asked answer kind []
  silent false e answer kind = refl
  silent true e answer kind = absurd (cc e)

  -- nothing stands between the answers and the recoveries
  module _ (alerts : Text) (bands : Kind → Text) (answers : Kind → Text) (recoveries : Kind → Text) (lasts : Text) (none : lasts ≡ []) where
    with_no_last : (numbers_line (codes "moment") (p.time ∷ [])
        ++ (alerts ++ (of_each bands ++ (of_each answers ++ (lasts ++ (of_each recoveries ++ numbers_line (codes "done") (p.time ∷ [])))))))
        ≡ (numbers_line (codes "moment") (p.time ∷ []) ++ (alerts ++ (of_each bands ++ (of_each answers ++ (of_each recoveries ++ numbers_line (codes "done") (p.time ∷ []))))))
    with_no_last = ap
        (λ (x : Text). numbers_line (codes "moment") (p.time ∷ [])
        ++ (alerts ++ (of_each bands ++ (of_each answers ++ (x ++ (of_each recoveries ++ numbers_line (codes "done") (p.time ∷ [])))))))
        none

  pub without_last_times : (text : Text) → IsMomentText s p text → IsTextWithoutLastTimes s p text
  without_last_times text h = record {
    alerts = h.alerts;
    bands = h.bands;
    answers = h.answers;
    recoveries = h.recoveries;
    alerts_are = h.alerts_are;
    bands_are = h.bands_are;
    answers_are = h.answers_are;
    recoveries_are = h.recoveries_are;
    text_is = h.text_is ∙ with_no_last h.alerts
        (λ kind. flat_map (line_of kind) (h.bands kind)) (λ kind. resolve_line kind (h.answers kind Lower) (h.answers kind Upper)) h.recoveries (of_each h.lasts)
        (none_each h.lasts (λ kind. no_last s.last_times unasked (h.answers kind Lower) kind (h.lasts kind) (h.lasts_are kind)));
  }

  pub from_without_last_times : (text : Text) → IsTextWithoutLastTimes s p text → IsMomentText s p text
  from_without_last_times text h = record {
    alerts = h.alerts;
    bands = h.bands;
    answers = h.answers;
    lasts = λ kind. [];
    recoveries = h.recoveries;
    alerts_are = h.alerts_are;
    bands_are = h.bands_are;
    answers_are = h.answers_are;
    lasts_are = λ kind. silent s.last_times unasked (h.answers kind Lower) kind;
    recoveries_are = h.recoveries_are;
    text_is = h.text_is ∙ sym (with_no_last h.alerts
        (λ kind. flat_map (line_of kind) (h.bands kind)) (λ kind. resolve_line kind (h.answers kind Lower) (h.answers kind Upper)) h.recoveries (of_each (λ kind. []))
        (none_each (λ kind. []) (λ kind. refl)));
  }

module _ (s : Settings) (p : Picture) (unasked : s.recovery ≡ None) where
  -- no kind has such a line
  no_recovery : (asked : Bool) → asked ≡ false → (lower upper : Resolution) (kind : Kind) (text : Text) → IsRecoveryText s p asked lower upper kind text → text ≡ []
  no_recovery false e lower upper kind text is = is
  no_recovery true e lower upper kind text is = absurd (cc e)

  quiet : (asked : Bool) → asked ≡ false → (lower upper : Resolution) (kind : Kind) → IsRecoveryText s p asked lower upper kind []
  quiet false e lower upper kind = refl
  quiet true e lower upper kind = absurd (cc e)

  -- nothing stands between the answers and the last line
  module _ (alerts : Text) (bands : Kind → Text) (answers : Kind → Text) (recoveries : Text) (none : recoveries ≡ []) where
    with_none : (numbers_line (codes "moment") (p.time ∷ []) ++ (alerts ++ (of_each bands ++ (of_each answers ++ (recoveries ++ numbers_line (codes "done") (p.time ∷ []))))))
        ≡ (numbers_line (codes "moment") (p.time ∷ []) ++ (alerts ++ (of_each bands ++ (of_each answers ++ numbers_line (codes "done") (p.time ∷ [])))))
    with_none = ap
        (λ (x : Text). numbers_line (codes "moment") (p.time ∷ []) ++ (alerts ++ (of_each bands ++ (of_each answers ++ (x ++ numbers_line (codes "done") (p.time ∷ []))))))
        none

  without_recoveries : (text : Text) → IsTextWithoutLastTimes s p text → IsPlainText s p text
  without_recoveries text h = record {
    alerts = h.alerts;
    bands = h.bands;
    answers = h.answers;
    alerts_are = h.alerts_are;
    bands_are = h.bands_are;
    answers_are = h.answers_are;
    text_is = h.text_is ∙ with_none h.alerts (λ kind. flat_map (line_of kind) (h.bands kind)) (λ kind. resolve_line kind (h.answers kind Lower) (h.answers kind Upper)) (of_each h.recoveries)
        (none_each h.recoveries (λ kind. no_recovery (is_some s.recovery) (not_asked s.recovery unasked) (h.answers kind Lower) (h.answers kind Upper) kind (h.recoveries kind)
        (h.recoveries_are kind)));
  }

  from_without_recoveries : (text : Text) → IsPlainText s p text → IsTextWithoutLastTimes s p text
  from_without_recoveries text h = record {
    alerts = h.alerts;
    bands = h.bands;
    answers = h.answers;
    recoveries = λ kind. [];
    alerts_are = h.alerts_are;
    bands_are = h.bands_are;
    answers_are = h.answers_are;
    recoveries_are = λ kind. quiet (is_some s.recovery) (not_asked s.recovery unasked) (h.answers kind Lower) (h.answers kind Upper) kind;
    text_is = h.text_is ∙ sym (with_none h.alerts (λ kind. flat_map (line_of kind) (h.bands kind)) (λ kind. resolve_line kind (h.answers kind Lower) (h.answers kind Upper)) (of_each (λ kind. []))
        (none_each (λ kind. []) (λ kind. refl)));
  }

module _ (s : Settings) (p : Picture) (no_times : s.last_times ≡ false) (no_cylinder : s.recovery ≡ None) where
  pub plain : (text : Text) → IsMomentText s p text → IsPlainText s p text
  plain text h = without_recoveries s p no_cylinder text (without_last_times s p no_times text h)

  pub from_plain : (text : Text) → IsPlainText s p text → IsMomentText s p text
  from_plain text h = from_without_last_times s p no_times text (from_without_recoveries s p no_cylinder text h)
