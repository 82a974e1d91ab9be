-- The texts of the events of a piece.
use Rattle.std.proofs.Common.{ℕ, ◌-◌, ◌≤◌, ◌≡◌, ◌∙◌, ◌||◌, ◌⊎◌, All, Bool, false, List, [], ◌∷◌, ◌++◌, length, take, drop, get_or}
use Rattle.std.proofs.Common.{arith, refl, sym, ap, ap₂, subst, append_assoc, append-nil, length-append, inl, inr}
use Rattle.std.specs.Io.KnownBytes.{Appends}
use Rattle.std.proofs.KnownBytes.{Appends-nil, Appends-trans}
use Rattle.std.proofs.lemmas.List.Elements.{All-weaker}
use Rattle.std.proofs.lemmas.List.Folds.{list_any-append}
use Rattle.daa_bands.specs.Parts.{SplitsByEach}
use Rattle.daa_config.specs.Settings.{Settings}
use Rattle.daa_lines.specs.LinesOf.{Bytes}
use Rattle.daa_report.specs.Lines.{Text}
use Rattle.daa_report.specs.Says.{AppendsFront}
use Rattle.daa_ahead.specs.Bytes.{ToldBytes}
use Rattle.daa_replay.specs.declared.lines.Event.{Event}
use Rattle.daa_replay.specs.Moment.{IsEventText}
use Rattle.daa_replay.specs.Inside.Moment.{BeginsText}
use Rattle.daa_replay.specs.declared.lane.Chunk.{Chunk}
use Rattle.daa_replay.specs.declared.checkpoint.Checkpoint.{Checkpoint}
use Rattle.daa_replay.specs.Lines.{is_refusal}
use Rattle.daa_replay.specs.Inside.Batch.{AddsText, AddsTexts, Fails, IsChunk, Shares, StopsWithin, TakesTexts, Tells}
use Rattle.daa_replay.specs.Inside.Events.{HasLines}
use Rattle.daa_replay.specs.Inside.Lines.{Follows}
use Rattle.daa_replay.specs.Inside.Checkpoint.{Gives, IsCheckpoint, Reading, reading_at}
use Rattle.daa_replay.proofs.GivenLemmas.{or_false}
use Rattle.daa_replay.proofs.CheckpointLemmas.{lines-there}
use Rattle.daa_replay.proofs.TextLemmas.{begins-more, texts-append, texts-push}

-- two ways to cut a text in two: the front ends within the first part, or goes on into the second
abbrev pub Cut : (front rest first second : Text) → Type 0
Cut front rest first second = ((unwritten : Text) × (first ≡ front ++ unwritten)) ⊎ ((more : Text) × (front ≡ first ++ more) × (second ≡ more ++ rest))

cut_more : (x y : ℕ) (front rest first second : Text) → x ≡ y → Cut front rest first second → Cut (x ∷ front) rest (y ∷ first) second
cut_more x y front rest first second same (inl c) = inl (c.0, ap₂ (λ (a : ℕ) (l : Text). a ∷ l) (sym same) c.1)
cut_more x y front rest first second same (inr c) = inr (c.0, ap₂ (λ (a : ℕ) (l : Text). a ∷ l) same c.1, c.2)

cut : (front rest first second : Text) → front ++ rest ≡ first ++ second → Cut front rest first second
cut [] rest first second e = inl (first, refl)
cut (x ∷ front) rest [] second e = inr (x ∷ front, refl, sym e)
cut (x ∷ front) rest (y ∷ first) second e =
    cut_more x y front rest first second (ap (λ (l : Text). get_or l 0 0) e) (cut front rest first second (ap (drop 1) e))

no_front : (front rest : Text) → [] ≡ front ++ rest → front ≡ []
no_front [] rest e = refl
no_front (x ∷ front) rest e = absurd (omega (arith, ap length e))

module _ (settings : Settings) where
  -- no event's text was taken
  pub takes-nothing : (now : ToldBytes) → TakesTexts settings [] now now
  takes-nothing now = record { text = []; is = refl; taken = Appends-nil now }

  -- and the texts of further events
  pub takes-more : (es fs : List Event) (a b c : ToldBytes) → TakesTexts settings es a b → TakesTexts settings fs b c → TakesTexts settings (es ++ fs) a c
  takes-more es fs a b c s t = record {
    text = s.text ++ t.text;
    is = texts-append settings es fs s.text t.text s.is t.is;
    taken = Appends-trans a b c s.text t.text s.taken t.taken;
  }

  -- and that of one more
  pub takes-event : (es : List Event) (e : Event) (a b c : ToldBytes) (text : Text) → TakesTexts settings es a b → IsEventText settings e text → Appends b c text
      → TakesTexts settings (es ++ e ∷ []) a c
  takes-event es e a b c text s is taken = record {
    text = s.text ++ text;
    is = texts-push settings es e s.text text s.is is;
    taken = Appends-trans a b c s.text text s.taken taken;
  }

  -- a beginning of the texts of events
  pub record FrontOf (events : List Event) (front : Text) : Type 0 where
    pub written : List Event
    pub later : List Event
    pub events_are : events ≡ written ++ later
    pub whole : Text
    pub texts : SplitsByEach (IsEventText settings) written whole
    pub begun : Text
    pub begins : BeginsText settings later begun
    pub together : front ≡ whole ++ begun

  by_cut : (e : Event) (es : List Event) (first second front rest : Text) → IsEventText settings e first → ((m : Text) → second ≡ m ++ rest → FrontOf es m)
      → Cut front rest first second → FrontOf (e ∷ es) front
  by_cut e es first second front rest is next (inl c) = record {
    written = [];
    later = e ∷ es;
    events_are = refl;
    whole = [];
    texts = refl;
    begun = front;
    begins = inr (c.0, subst (λ (t : Text). IsEventText settings e t) c.1 is);
    together = refl;
  }
  by_cut e es first second front rest is next (inr c) =
      let f = next c.0 c.2 in record {
        written = e ∷ f.written;
        later = f.later;
        events_are = ap (λ (l : List Event). e ∷ l) f.events_are;
        whole = first ++ f.whole;
        texts = record { first = first; second = f.whole; first_is = is; second_is = f.texts; joined = refl };
        begun = f.begun;
        begins = f.begins;
        together = c.1 ∙ ap (λ (l : Text). first ++ l) f.together ∙ sym (append_assoc first f.whole f.begun);
      }

  front_of : (events : List Event) (text front rest : Text) → SplitsByEach (IsEventText settings) events text → text ≡ front ++ rest → FrontOf events front
  front_of [] text front rest h e = record {
    written = [];
    later = [];
    events_are = refl;
    whole = [];
    texts = refl;
    begun = front;
    begins = no_front front rest (sym h ∙ e);
    together = refl;
  }
  front_of (event ∷ events) text front rest h e =
      by_cut event events h.first h.second front rest h.first_is (λ m same. front_of events h.second m rest h.second_is same)
      (cut front rest h.first h.second (sym e ∙ h.joined))

  -- the sink failed within the texts of events
  pub stops-front : (events : List Event) (text : Text) (old new : ToldBytes) → SplitsByEach (IsEventText settings) events text → AppendsFront old new text
      → StopsWithin settings events old new
  stops-front events text old new h a =
      let f = front_of events text a.0 a.1 h a.2 in record {
        written = f.written;
        later = f.later;
        events_are = f.events_are;
        whole = f.whole;
        texts = f.texts;
        begun = f.begun;
        begins = f.begins;
        taken = subst (λ (t : Text). Appends old new t) f.together a.3;
      }

  -- within that of one
  pub stops-one : (event : Event) (text : Text) (old new : ToldBytes) → IsEventText settings event text → AppendsFront old new text
      → StopsWithin settings (event ∷ []) old new
  stops-one event text old new is a = record {
    written = [];
    later = event ∷ [];
    events_are = refl;
    whole = [];
    texts = refl;
    begun = a.0;
    begins = inr (a.1, subst (λ (t : Text). IsEventText settings event t) a.2 is);
    taken = a.3;
  }

  -- after the texts of others
  pub stops-after : (es fs : List Event) (a b c : ToldBytes) → TakesTexts settings es a b → StopsWithin settings fs b c → StopsWithin settings (es ++ fs) a c
  stops-after es fs a b c t s = record {
    written = es ++ s.written;
    later = s.later;
    events_are = ap (λ (l : List Event). es ++ l) s.events_are ∙ sym (append_assoc es s.written s.later);
    whole = t.text ++ s.whole;
    texts = texts-append settings es s.written t.text s.whole t.is s.texts;
    begun = s.begun;
    begins = s.begins;
    taken = subst (λ (x : Text). Appends a c x) (sym (append_assoc t.text s.whole s.begun)) (Appends-trans a b c t.text (s.whole ++ s.begun) t.taken s.taken);
  }

  -- where others follow
  pub stops-before : (es fs : List Event) (a b : ToldBytes) → StopsWithin settings es a b → StopsWithin settings (es ++ fs) a b
  stops-before es fs a b s = record {
    written = s.written;
    later = s.later ++ fs;
    events_are = ap (λ (l : List Event). l ++ fs) s.events_are ∙ append_assoc s.written s.later fs;
    whole = s.whole;
    texts = s.texts;
    begun = s.begun;
    begins = begins-more settings s.later fs s.begun s.begins;
    taken = s.taken;
  }

  -- ---- from one reading of a piece to a later one

  -- a line without an event is passed over
  abbrev pub Passes : Bytes → (from upto : Reading) → Type 0
  Passes piece from upto = (bytes : Bytes) (given : List Event) → Follows (bytes ++ take from.done piece) given from.lines from.moments
      → Follows (bytes ++ take upto.done piece) given upto.lines upto.moments

  pub gives-join : (piece : Bytes) (es fs : List Event) (a b c : Reading) → Gives piece es a b → Gives piece fs b c → Gives piece (es ++ fs) a c
  gives-join piece es fs a b c g h = λ bytes given f.
      subst (λ (x : List Event). Follows (bytes ++ take c.done piece) x c.lines c.moments) (append_assoc given es fs) (h bytes (given ++ es) (g bytes given f))

  pub gives-none : (piece : Bytes) (a : Reading) → Gives piece [] a a
  gives-none piece a = λ bytes given f. subst (λ (x : List Event). Follows (bytes ++ take a.done piece) x a.lines a.moments) (sym (append-nil given)) f

  pub tells-none : (piece : Bytes) (a : Reading) → Tells settings piece a a false []
  tells-none piece a = record {
    events = [];
    gives = gives-none piece a;
    refusals = refl;
    texts = refl;
  }

  pub tells-join : (piece : Bytes) (a b c : Reading) (r s : Bool) (t u : Text) → Tells settings piece a b r t → Tells settings piece b c s u → Tells settings piece a c (r || s) (t ++ u)
  tells-join piece a b c r s t u x y = record {
    events = x.events ++ y.events;
    gives = gives-join piece x.events y.events a b c x.gives y.gives;
    refusals = ap₂ (λ (m n : Bool). m || n) x.refusals y.refusals ∙ sym (list_any-append is_refusal x.events y.events);
    texts = texts-append settings x.events y.events t u x.texts y.texts;
  }

  tells_pass : (piece : Bytes) (a b c : Reading) (r : Bool) (t : Text) → Tells settings piece a b r t → Passes piece b c → Tells settings piece a c r t
  tells_pass piece a b c r t x p = record {
    events = x.events;
    gives = λ bytes given f. p bytes (given ++ x.events) (x.gives bytes given f);
    refusals = x.refusals;
    texts = x.texts;
  }

  -- the text of one event
  tells_one : (piece : Bytes) (a b : Reading) (event : Event) (text : Text) → Gives piece (event ∷ []) a b → IsEventText settings event text → Tells settings piece a b (is_refusal event) text
  tells_one piece a b event text gives is = record {
    events = event ∷ [];
    gives = gives;
    refusals = sym (or_false (is_refusal event));
    texts = texts-push settings [] event [] text refl is;
  }

  -- ---- on a sheet

  pub adds-none : (piece : Bytes) (a : Reading) (sheet : Text) → AddsTexts settings piece a a false sheet sheet
  adds-none piece a sheet = ([], tells-none piece a, sym (append-nil sheet))

  pub adds-join : (piece : Bytes) (a b c : Reading) (r s : Bool) (old mid new : Text) → AddsTexts settings piece a b r old mid → AddsTexts settings piece b c s mid new
      → AddsTexts settings piece a c (r || s) old new
  adds-join piece a b c r s old mid new x y = (
    x.0 ++ y.0,
    tells-join piece a b c r s x.0 y.0 x.1 y.1,
    y.2 ∙ ap (λ (t : Text). t ++ y.0) x.2 ∙ append_assoc old x.0 y.0,
  )

  pub adds-pass : (piece : Bytes) (a b c : Reading) (r : Bool) (old new : Text) → AddsTexts settings piece a b r old new → Passes piece b c → AddsTexts settings piece a c r old new
  adds-pass piece a b c r old new x p = (x.0, tells_pass piece a b c r x.0 x.1 p, x.2)

  -- that of one event more
  pub adds-event : (piece : Bytes) (a b c : Reading) (r s : Bool) (event : Event) (old mid new : Text) → AddsTexts settings piece a b r old mid → Gives piece (event ∷ []) b c
      → AddsText settings event mid new → s ≡ (r || is_refusal event) → AddsTexts settings piece a c s old new
  adds-event piece a b c r s event old mid new x gives one same =
      subst (λ (n : Bool). AddsTexts settings piece a c n old new) (sym same)
      (adds-join piece a b c r (is_refusal event) old mid new x (one.0, tells_one piece b c event one.0 gives one.1, one.2))

  -- ---- parts of a sheet

  -- what was added is a part
  pub part-added : (piece : Bytes) (old new : Text) (part : Chunk) → AddsTexts settings piece (reading_at part.from) (reading_at part.upto) part.refused old new → IsCheckpoint piece part.upto
      → part.start ≡ length old → part.end ≡ length new → IsChunk settings piece new part
  part-added piece old new part added there start end = record {
    before = old;
    text = added.0;
    after = [];
    sheet_is = added.2 ∙ ap (λ (t : Text). old ++ t) (sym (append-nil added.0));
    start_is = start;
    end_is = end ∙ ap length added.2 ∙ length-append old added.0;
    texts = record { tells = added.1; there = there };
  }

  part_stays : (piece : Bytes) (old new more : Text) → new ≡ old ++ more → (part : Chunk) → IsChunk settings piece old part → IsChunk settings piece new part
  part_stays piece old new more grows part p = record {
    before = p.before;
    text = p.text;
    after = p.after ++ more;
    sheet_is = grows ∙ ap (λ (t : Text). t ++ more) p.sheet_is ∙ append_assoc p.before (p.text ++ p.after) more
        ∙ ap (λ (t : Text). p.before ++ t) (append_assoc p.text p.after more);
    start_is = p.start_is;
    end_is = p.end_is;
    texts = p.texts;
  }

  -- the parts stay where texts are added
  pub parts-stay : (piece : Bytes) (a b : Reading) (r : Bool) (old new : Text) (parts : List Chunk) → AddsTexts settings piece a b r old new → All (IsChunk settings piece old) parts
      → All (IsChunk settings piece new) parts
  parts-stay piece a b r old new parts added all =
      All-weaker (IsChunk settings piece old) (IsChunk settings piece new) (part_stays piece old new added.0 added.2) parts all

  -- ---- at the sink

  taken_of : (piece : Bytes) (a b : Reading) (r : Bool) (old new : ToldBytes) → (x : Shares settings piece a b r old new) → TakesTexts settings x.1.events old new
  taken_of piece a b r old new x = record { text = x.0; is = x.1.texts; taken = x.2 }

  pub shares-none : (piece : Bytes) (a : Reading) (now : ToldBytes) → Shares settings piece a a false now now
  shares-none piece a now = ([], tells-none piece a, Appends-nil now)

  pub shares-join : (piece : Bytes) (a b c : Reading) (r s : Bool) (old mid new : ToldBytes) → Shares settings piece a b r old mid → Shares settings piece b c s mid new
      → Shares settings piece a c (r || s) old new
  shares-join piece a b c r s old mid new x y = (
    x.0 ++ y.0,
    tells-join piece a b c r s x.0 y.0 x.1 y.1,
    Appends-trans old mid new x.0 y.0 x.2 y.2,
  )

  pub shares-pass : (piece : Bytes) (a b c : Reading) (r : Bool) (old new : ToldBytes) → Shares settings piece a b r old new → Passes piece b c → Shares settings piece a c r old new
  shares-pass piece a b c r old new x p = (x.0, tells_pass piece a b c r x.0 x.1 p, x.2)

  -- the text of one event
  shares_one : (piece : Bytes) (a b : Reading) (event : Event) (text : Text) (old new : ToldBytes) → Gives piece (event ∷ []) a b → IsEventText settings event text → Appends old new text
      → Shares settings piece a b (is_refusal event) old new
  shares_one piece a b event text old new gives is appends = (text, tells_one piece a b event text gives is, appends)

  pub shares-event : (piece : Bytes) (a b c : Reading) (r s : Bool) (event : Event) (text : Text) (old mid new : ToldBytes) → Shares settings piece a b r old mid → Gives piece (event ∷ []) b c
      → IsEventText settings event text → Appends mid new text → s ≡ (r || is_refusal event) → Shares settings piece a c s old new
  shares-event piece a b c r s event text old mid new x gives is appends same =
      subst (λ (n : Bool). Shares settings piece a c n old new) (sym same)
      (shares-join piece a b c r (is_refusal event) old mid new x (shares_one piece b c event text mid new gives is appends))

  -- it failed after others
  pub fails-after : (piece : Bytes) (a b : Reading) (r : Bool) (old mid new : ToldBytes) → Shares settings piece a b r old mid → Fails settings piece b mid new → Fails settings piece a old new
  fails-after piece a b r old mid new x y = record {
    events = x.1.events ++ y.events;
    upto = y.upto;
    within = y.within;
    can = y.can;
    gives = gives-join piece x.1.events y.events a b y.upto x.1.gives y.gives;
    stops = stops-after x.1.events y.events old mid new (taken_of piece a b r old mid x) y.stops;
  }

  -- within the text of a part
  fails_part : (piece : Bytes) (a b : Reading) (r : Bool) (text : Text) (old new : ToldBytes) → Tells settings piece a b r text → b.done ≤ length piece → HasLines (length piece - b.done) b.lines
      → AppendsFront old new text → Fails settings piece a old new
  fails_part piece a b r text old new t within can front = record {
    events = t.events;
    upto = b;
    within = within;
    can = can;
    gives = t.gives;
    stops = stops-front t.events text old new t.texts front;
  }

  pub fails-part : (piece : Bytes) (a b : Reading) (r s : Bool) (upto : Checkpoint) (text : Text) (old mid new : ToldBytes) → Shares settings piece a b r old mid
      → Tells settings piece b (reading_at upto) s text → IsCheckpoint piece upto → AppendsFront mid new text → Fails settings piece a old new
  fails-part piece a b r s upto text old mid new x t there front =
      fails-after piece a b r old mid new x (fails_part piece b (reading_at upto) s text mid new t there.within (lines-there piece upto there) front)

  -- within the text of one event
  pub fails-event : (piece : Bytes) (a b c : Reading) (r : Bool) (event : Event) (text : Text) (old mid new : ToldBytes) → Shares settings piece a b r old mid → Gives piece (event ∷ []) b c
      → c.done ≤ length piece → HasLines (length piece - c.done) c.lines → IsEventText settings event text → AppendsFront mid new text → Fails settings piece a old new
  fails-event piece a b c r event text old mid new x gives within can is front =
      fails-after piece a b r old mid new x (fails_part piece b c (is_refusal event) text mid new (tells_one piece b c event text gives is) within can front)
