-- What is found as the report of states is compared, event by event.
use Rattle.std.proofs.Common.{◌≡◌, ◌≢◌, ◌∙◌, ◌<◌, ◌+◌, ◌-◌, ◌^◌, ℕ, Bool, true, List, [], ◌∷◌, ◌++◌, arith, refl, sym, ap, subst, append_assoc, append-nil, length, take}
use Rattle.daa_ahead.specs.Bytes.{StreamState}
use Rattle.daa_bands.specs.Parts.{SplitsByEach}
use Rattle.daa_fixed.specs.One.{HasOne}
use Rattle.daa_config.specs.Settings.{Settings, IsAccepted}
use Rattle.daa_judge.specs.Found.{Finds}
use Rattle.daa_judge.specs.Matching.{IsMatched, Compares}
use Rattle.daa_judge.specs.declared.found.Found.{Found}
use Rattle.daa_judge.specs.declared.found.Found.TheVariants as found
use Rattle.daa_judge.specs.declared.matching.Matching.{Matching}
use Rattle.daa_lines.specs.LinesOf.{Bytes}
use Rattle.daa_report.specs.Lines.{Text}
use Rattle.daa_replay.specs.declared.events.Left.{Left}
use Rattle.daa_replay.specs.declared.events.Left.TheVariants as left
use Rattle.daa_replay.specs.declared.events.Progress.{Progress}
use Rattle.daa_replay.specs.declared.lines.Event.{Event}
use Rattle.daa_replay.specs.Inside.Batch.{Tells}
use Rattle.daa_replay.specs.Inside.Events.{CanGive, Gave, HasLines, IsBetween, IsGiven}
use Rattle.daa_replay.specs.Inside.Judge.{ComparesBetween, ComparesFirst, ComparesSome, ComparesTexts, Matches, StopsBetween}
use Rattle.daa_replay.specs.Inside.Checkpoint.{Gives, Reading, reading}
use Rattle.daa_replay.specs.Moment.{IsEventText, IsReportOf}
use Rattle.daa_replay.proofs.BatchLemmas.{Passes, gives-join, gives-none}
use Rattle.daa_replay.proofs.GivenLemmas.{as_left, at_start, given_first}
use Rattle.daa_replay.proofs.OneReport.{front_begins}
use Rattle.daa_replay.proofs.ReportLemmas.{begins-nothing}
use Rattle.daa_replay.proofs.TextLemmas.{texts-append, texts-push}
use Rattle.daa_replay.proofs.SomeReport.{one_report}

module _ (most : ℕ) (first : StreamState) (before text : Text) where
  regroup : (more rest : Text) → (before ++ text) ++ (more ++ rest) ≡ before ++ ((text ++ more) ++ rest)
  regroup more rest = append_assoc before text (more ++ rest) ∙ ap (λ (t : Text). before ++ t) (sym (append_assoc text more rest))

  -- a further text was compared after one that matched
  compares-on : (result : Found) (more : Text) (m : Matching) (now : StreamState) → Compares result most first (before ++ text) more m now
      → Compares result most first before (text ++ more) m now
  compares-on found.Alike more m now c = subst (λ (t : Text). IsMatched most first t m now) (append_assoc before text more) c
  compares-on (found.Differs number) more m now c = λ rest. subst (λ (t : Text). Finds t most (found.Differs number) first now) (regroup more rest) (c rest)
  compares-on found.Fault more m now c = λ rest. subst (λ (t : Text). Finds t most found.Fault first now) (regroup more rest) (c rest)
  compares-on found.Limit more m now c = λ rest. subst (λ (t : Text). Finds t most found.Limit first now) (regroup more rest) (c rest)

-- what every stop but a match finds
finds_of : (result : Found) → result ≢ found.Alike → (most : ℕ) (first : StreamState) (text : Text) (m : Matching) (now : StreamState)
    → Compares result most first [] text m now → (rest : Text) → Finds (text ++ rest) most result first now
finds_of found.Alike other most first text m now c rest = absurd (other refl)
finds_of (found.Differs number) other most first text m now c rest = c rest
finds_of found.Fault other most first text m now c rest = c rest
finds_of found.Limit other most first text m now c rest = c rest

-- what is known of a text that was compared
pub compares-text : (P : Text → Type 0) (text : Text) (result : Found) (m n : Matching) (s t : StreamState) → P text → ComparesSome (λ (some : Text). some ≡ text) result m n s t
    → ComparesSome P result m n s t
compares-text P text result m n s t is c = record { text = c.text; is = subst (λ (x : Text). P x) (sym c.is) is; compares = c.compares }

module _ (settings : Settings) where
  -- nothing was compared
  pub compares-nothing : (m : Matching) (s : StreamState) → ComparesTexts settings [] found.Alike m m s s
  compares-nothing m s = record {
    text = [];
    is = refl;
    compares = λ most first before h. subst (λ (t : Text). IsMatched most first t m s) (sym (append-nil before)) h;
  }

  -- the texts of further events
  compares_more : (es fs : List Event) (result : Found) (m n o : Matching) (s t u : StreamState) → ComparesTexts settings es found.Alike m n s t → ComparesTexts settings fs result n o t u
      → ComparesTexts settings (es ++ fs) result m o s u
  compares_more es fs result m n o s t u c d = record {
    text = c.text ++ d.text;
    is = texts-append settings es fs c.text d.text c.is d.is;
    compares = λ most first before h. compares-on most first before c.text result d.text o u (d.compares most first (before ++ c.text) (c.compares most first before h));
  }

  -- the text of one
  compares_one : (s' : Settings) → s' ≡ settings → (event : Event) (result : Found) (m n : Matching) (s t : StreamState) → ComparesSome (IsEventText s' event) result m n s t
      → ComparesTexts settings (event ∷ []) result m n s t
  compares_one s' e event result m n s t c = record {
    text = c.text;
    is = texts-push settings [] event [] c.text refl (subst (λ (x : Settings). IsEventText x event c.text) e c.is);
    compares = c.compares;
  }

  -- one event more
  pub compares-event : (s' : Settings) → s' ≡ settings → (events : List Event) (event : Event) (result : Found) (m n o : Matching) (s t u : StreamState)
      → ComparesTexts settings events found.Alike m n s t → ComparesSome (IsEventText s' event) result n o t u → ComparesTexts settings (events ++ event ∷ []) result m o s u
  compares-event s' e events event result m n o s t u c d = compares_more events (event ∷ []) result m n o s t u c (compares_one s' e event result n o t u d)

  -- ---- from one reading of the states to a later one

  pub between-none : (piece : Bytes) (a : Reading) (m : Matching) (s : StreamState) → ComparesBetween settings piece a a found.Alike m m s s
  between-none piece a m s = record { events = []; gives = gives-none settings piece a; compares = compares-nothing m s }

  pub between-pass : (piece : Bytes) (a b c : Reading) (m n : Matching) (s t : StreamState) → ComparesBetween settings piece a b found.Alike m n s t → Passes settings piece b c
      → ComparesBetween settings piece a c found.Alike m n s t
  between-pass piece a b c m n s t x p = record {
    events = x.events;
    gives = λ bytes given f. p bytes (given ++ x.events) (x.gives bytes given f);
    compares = x.compares;
  }

  pub between-join : (piece : Bytes) (a b c : Reading) (result : Found) (m n o : Matching) (s t u : StreamState) → ComparesBetween settings piece a b found.Alike m n s t
      → ComparesBetween settings piece b c result n o t u → ComparesBetween settings piece a c result m o s u
  between-join piece a b c result m n o s t u x y = record {
    events = x.events ++ y.events;
    gives = gives-join settings piece x.events y.events a b c x.gives y.gives;
    compares = compares_more x.events y.events result m n o s t u x.compares y.compares;
  }

  -- a part
  pub between-part : (piece : Bytes) (a b : Reading) (refused : Bool) (text : Text) (result : Found) (m n : Matching) (s t : StreamState) → Tells settings piece a b refused text
      → ComparesSome (λ (some : Text). some ≡ text) result m n s t → ComparesBetween settings piece a b result m n s t
  between-part piece a b refused text result m n s t x c = record {
    events = x.events;
    gives = x.gives;
    compares = compares-text (SplitsByEach (IsEventText settings) x.events) text result m n s t x.texts c;
  }

  -- one event
  pub between-event : (piece : Bytes) (a b : Reading) (s' : Settings) → s' ≡ settings → (event : Event) (result : Found) (m n : Matching) (s t : StreamState) → Gives piece (event ∷ []) a b
      → ComparesSome (IsEventText s' event) result m n s t → ComparesBetween settings piece a b result m n s t
  between-event piece a b s' e event result m n s t gives c = record { events = event ∷ []; gives = gives; compares = compares_one s' e event result m n s t c }

  -- it stopped after what matched
  pub stops-later : (piece : Bytes) (a b : Reading) (result : Found) (m n o : Matching) (s t u : StreamState) → ComparesBetween settings piece a b found.Alike m n s t
      → StopsBetween settings piece b result n o t u → StopsBetween settings piece a result m o s u
  stops-later piece a b result m n o s t u x y = record {
    stops = y.stops;
    upto = y.upto;
    within = y.within;
    can = y.can;
    compared = between-join piece a b y.upto result m n o s t u x y.compared;
  }

  -- ---- from the first byte of the states on

  pub matches-nothing : (states : Bytes) (p : Progress) (m : Matching) (s : StreamState) → IsBetween p → IsGiven [] [] p → p.lines.fed + length states < 2 ^ 63
      → Matches settings states 0 p m m s s
  matches-nothing states p m s between begun few = record {
    at = at_start (length states) true p between few;
    events = [];
    given = begun;
    compares = compares-nothing m s;
  }

  -- all lines were shared out, and matched
  pub matches-lines : (states : Bytes) (p q : Progress) (m n : Matching) (s t : StreamState) → IsBetween p → IsGiven [] [] p → q.left ≡ p.left → HasLines 0 q.lines
      → ComparesBetween settings states (reading 0 p.lines p.moments) (reading (length states) q.lines q.moments) found.Alike m n s t → Matches settings states (length states) q m n s t
  matches-lines states p q m n s t between begun stays has x =
      let left_is : q.left ≡ left.Lines = stays ∙ between.left in
      record {
        at = record {
          within = omega arith;
          can = subst (λ (l : Left). CanGive l true (length states - length states) q.lines) (sym left_is)
              (record { free = has.free; going = has.going; room = omega (arith, has.room) });
        };
        events = x.events;
        given = subst (λ (l : Left). Gave l (take (length states) states) x.events q.lines q.moments) (sym left_is)
            (x.gives [] [] (as_left [] [] p left.Lines between.left begun));
        compares = x.compares;
      }

  -- comparing stopped within their texts
  pub first-stopped : (states : Bytes) (p : Progress) (result : Found) (m n : Matching) (s t : StreamState) → IsBetween p → IsGiven [] [] p
      → StopsBetween settings states (reading 0 p.lines p.moments) result m n s t → ComparesFirst settings states result m n s t
  first-stopped states p result m n s t between begun x =
      let y = x.compared in
      let front = given_first [] states x.upto.done left.Lines true y.events x.upto.lines x.upto.moments x.within x.can
      (y.gives [] [] (as_left [] [] p left.Lines between.left begun)) in
      record { events = y.events; later = front.0; all = front.1; none = λ e. absurd (x.stops e); compares = y.compares }

  -- comparing ended within the report
  pub judged_stop : IsAccepted settings → (states : Bytes) (result : Found) → result ≢ found.Alike → (most : ℕ) (m n : Matching) (old now : StreamState)
      → ComparesFirst settings states result m n old now → IsMatched most old [] m old
      → (report : HasOne (IsReportOf settings states true)) × Finds report.one most result old now
  judged_stop ok states result other most m n old now f h =
      let one = one_report settings ok states true in
      let c = f.compares in
      let rest = front_begins settings ok states true c.text one.one
      (record { written = f.events; later = f.later; events = f.all; whole = c.text; texts = c.is; begun = []; begins = begins-nothing settings f.later; together = sym (append-nil c.text) })
      one.is in
      (one, subst (λ (t : Text). Finds t most result old now) (sym rest.1) (finds_of result other most old c.text n now (c.compares most old [] h) rest.0))

  -- the whole report matched
  pub judged_whole : IsAccepted settings → (states : Bytes) (result : Found) (most : ℕ) (m n : Matching) (old mid now : StreamState)
      → ComparesFirst settings states found.Alike m n old mid → IsMatched most old [] m old
      → ((report : Text) → IsMatched most old report n mid → Finds report most result old now)
      → (report : HasOne (IsReportOf settings states true)) × Finds report.one most result old now
  judged_whole ok states result most m n old mid now f h end =
      let one = one_report settings ok states true in
      let c = f.compares in
      let all = ap (λ (l : List Event). f.events ++ l) (sym (f.none refl)) ∙ sym f.all in
      let is : IsReportOf settings states true c.text =
      subst (λ (l : List Event). SplitsByEach (IsEventText settings) l c.text) (sym (append-nil f.events) ∙ all) c.is in
      (one, subst (λ (t : Text). Finds t most result old now) (one.only c.text is) (end c.text (c.compares most old [] h)))
