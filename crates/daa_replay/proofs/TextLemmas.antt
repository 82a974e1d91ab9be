-- The texts of lists of events.
use Rattle.std.proofs.Common.{List, [], ◌∷◌, ◌++◌, refl, sym, append_assoc, append-nil, inl}
use Rattle.daa_bands.specs.Parts.{SplitsByEach}
use Rattle.daa_config.specs.Settings.{Settings}
use Rattle.daa_report.specs.Lines.{Text}
use Rattle.daa_replay.specs.declared.lines.Event.{Event}
use Rattle.daa_replay.specs.Moment.{IsEventText}
use Rattle.daa_replay.specs.Inside.Moment.{BeginsText}

module _ (settings : Settings) where
  pub texts-append : (es fs : List Event) (t u : Text) → SplitsByEach (IsEventText settings) es t → SplitsByEach (IsEventText settings) fs u → SplitsByEach (IsEventText settings) (es ++ fs) (t ++ u)
  texts-append [] fs t u h k = rw h k
  texts-append (e ∷ es) fs t u h k = record {
    first = h.first;
    second = h.second ++ u;
    first_is = h.first_is;
    second_is = texts-append es fs h.second u h.second_is k;
    joined = rw h.joined (append_assoc h.first h.second u);
  }

  texts_one : (e : Event) (t : Text) → IsEventText settings e t → SplitsByEach (IsEventText settings) (e ∷ []) t
  texts_one e t is = record { first = t; second = []; first_is = is; second_is = refl; joined = sym (append-nil t) }

  -- one event more
  pub texts-push : (es : List Event) (e : Event) (t u : Text) → SplitsByEach (IsEventText settings) es t → IsEventText settings e u → SplitsByEach (IsEventText settings) (es ++ e ∷ []) (t ++ u)
  texts-push es e t u h is = texts-append es (e ∷ []) t u h (texts_one e u is)

  -- a beginning stays one where more events follow
  pub begins-more : (later rest : List Event) (begun : Text) → BeginsText settings later begun → BeginsText settings (later ++ rest) begun
  begins-more [] [] begun h = h
  begins-more [] (e ∷ rest) begun h = inl h
  begins-more (e ∷ later) rest begun h = h
