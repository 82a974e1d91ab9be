-- Exactly one text is the report of an input.
use Rattle.std.proofs.Common.{◌≡◌, ◌∙◌, Bool, List, [], ◌∷◌, ◌++◌, refl, sym, ap, ap₂, subst, append_assoc, inl, inr}
use Rattle.daa_bands.specs.Parts.{SplitsByEach}
use Rattle.daa_config.specs.Settings.{Settings, IsAccepted}
use Rattle.daa_lines.specs.LinesOf.{Bytes}
use Rattle.daa_report.specs.Lines.{Text}
use Rattle.daa_engine.proofs.OneText.{text_only}
use Rattle.daa_replay.specs.declared.lines.Event.{Event}
use Rattle.daa_replay.specs.declared.lines.Event.TheVariants as event
use Rattle.daa_replay.specs.Lines.{events_of}
use Rattle.daa_replay.specs.Moment.{IsEventText, IsReportOf}
use Rattle.daa_replay.specs.Inside.Moment.{BeginsText}
use Rattle.daa_replay.proofs.ReportLemmas.{IsBegun}

module _ (settings : Settings) (accepted : IsAccepted settings) where
  event_once : (e : Event) (t u : Text) → IsEventText settings e t → IsEventText settings e u → t ≡ u
  event_once (event.Refused number fault) t u h k = h ∙ sym k
  event_once (event.Ended picture) t u h k = text_only settings picture accepted t u h k

  texts_once : (events : List Event) (t u : Text) → SplitsByEach (IsEventText settings) events t → SplitsByEach (IsEventText settings) events u → t ≡ u
  texts_once [] t u h k = h ∙ sym k
  texts_once (e ∷ events) t u h k =
      h.joined
      ∙ ap₂ (λ (x y : Text). x ++ y) (event_once e h.first k.first h.first_is k.first_is) (texts_once events h.second k.second h.second_is k.second_is)
      ∙ sym k.joined

  pub report_once : (bytes : Bytes) (ended : Bool) (t u : Text) → IsReportOf settings bytes ended t → IsReportOf settings bytes ended u → t ≡ u
  report_once bytes ended t u h k = texts_once (events_of bytes ended) t u h k

  -- the text of a list of events is that of the first ones, and then that of the others
  texts_split : (xs ys : List Event) (t : Text) → SplitsByEach (IsEventText settings) (xs ++ ys) t
      → (first : Text) × (rest : Text) × SplitsByEach (IsEventText settings) xs first × SplitsByEach (IsEventText settings) ys rest × (t ≡ first ++ rest)
  texts_split [] ys t h = ([], t, refl, h, refl)
  texts_split (e ∷ xs) ys t h =
      let s = texts_split xs ys h.second h.second_is in (
        h.first ++ s.0,
        s.1,
        record { first = h.first; second = s.0; first_is = h.first_is; second_is = s.2; joined = refl },
        s.3,
        h.joined ∙ ap (λ (x : Text). h.first ++ x) s.4 ∙ sym (append_assoc h.first s.0 s.1),
      )

  -- a beginning of the first event's text is one of the text of all
  begins_whole : (events : List Event) (begun t : Text) → BeginsText settings events begun → SplitsByEach (IsEventText settings) events t → (rest : Text) × (t ≡ begun ++ rest)
  begins_whole [] begun t h k = (t, ap (λ (x : Text). x ++ t) (sym h))
  begins_whole (e ∷ events) begun t (inl none) k = (t, ap (λ (x : Text). x ++ t) (sym none))
  begins_whole (e ∷ events) begun t (inr (unwritten, is)) k = (
    unwritten ++ k.second,
    k.joined ∙ ap (λ (x : Text). x ++ k.second) (event_once e k.first (begun ++ unwritten) k.first_is is) ∙ append_assoc begun unwritten k.second,
  )

  pub front_begins : (bytes : Bytes) (ended : Bool) (front text : Text) → IsBegun settings bytes ended front → IsReportOf settings bytes ended text
      → (rest : Text) × (text ≡ front ++ rest)
  front_begins bytes ended front text f h =
      let s = texts_split f.written f.later text (subst (λ (es : List Event). SplitsByEach (IsEventText settings) es text) f.events h) in
      let b = begins_whole f.later f.begun s.1 f.begins s.3 in (
        b.0,
        s.4 ∙ ap₂ (λ (x y : Text). x ++ y) (texts_once f.written s.0 f.whole s.2 f.texts) b.1 ∙ sym (append_assoc f.whole f.begun b.0)
            ∙ ap (λ (x : Text). x ++ b.0) (sym f.together),
      )
