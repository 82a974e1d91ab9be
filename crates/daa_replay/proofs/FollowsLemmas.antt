-- One line more, and the events so far.
use Rattle.std.proofs.Common.{ℕ, ◌+◌, ◌≡◌, List, [], ◌∷◌, ◌++◌, length, Option, None, Some, arith, refl, sym, ap, ap₂, ◌∙◌, Bool, true, false, append-nil, subst, take, drop, ◌≤◌, ◌-◌, append_assoc}
use Rattle.std.proofs.lemmas.List.{take-take, drop-take, take-append-drop}
use Rattle.daa_lines.specs.LinesOf.{Bytes, lines_of, shown}
use Rattle.daa_lines.specs.LinesState.{LinesState, is_standing}
use Rattle.daa_lines.specs.ComesFrom.{ComesFrom, standing}
use Rattle.daa_lines.specs.Taking.{after_taking}
use Rattle.daa_state.specs.MomentStep.{MomentsState, start, step, finished}
use Rattle.daa_replay.specs.declared.lines.Event.{Event}
use Rattle.daa_state.specs.Fault.{Checked, ◌>>=◌}
use Rattle.daa_state.specs.WordOf.{word_of}
use Rattle.daa_state.specs.declared.word.Word.{Word}
use Rattle.daa_lines.proofs.TakingLemmas.{standing_none, standing_one}
use Rattle.daa_replay.specs.Lines.{line_step, next_state, line_event, events_from, events_of}
use Rattle.daa_replay.specs.Inside.Lines.{Follows, state_after, given_with}
use Rattle.daa_replay.specs.Inside.Events.{IsFront}
use Rattle.daa_replay.proofs.EventLemmas.{end_event, events_from-append, events_from-push, events_from-end, events_from-shown, state_after-append}

-- the line that stands is taken, and its event is given
pub follows-line : (bytes : Bytes) (given : List Event) (old new : LinesState) (before : MomentsState) → is_standing old.stage ≡ true
    → ((b : Bytes) (t : List Bytes) → ComesFrom b t old → ComesFrom b (t ++ standing old.stage old.line) new)
    → Follows bytes given old before
    → Follows bytes (given ++ line_event (old.number + 1) (line_step before old.line)) new (next_state before (line_step before old.line))
follows-line bytes given old new before stood kept f =
    let more : f.taken ++ standing old.stage old.line ≡ f.taken ++ old.line ∷ [] =
    ap (λ (l : List Bytes). f.taken ++ l) (standing_one old.stage old.line stood) in
    let number : 1 + length f.taken ≡ old.number + 1 = omega (arith, f.comes_from.number) in
    record {
      taken = f.taken ++ old.line ∷ [];
      comes_from = subst (λ (t : List Bytes). ComesFrom bytes t new) more (kept bytes f.taken f.comes_from);
      state_is = ap (λ (s : MomentsState). next_state s (line_step s old.line)) f.state_is ∙ sym (state_after-append start f.taken (old.line ∷ []));
      events_are = ap₂ (λ (g : List Event) (s : MomentsState). g ++ line_event (old.number + 1) (line_step s old.line)) f.events_are f.state_is
          ∙ ap (λ (n : ℕ). events_from start 1 false f.taken ++ line_event n (line_step (state_after start f.taken) old.line)) (sym number)
          ∙ sym (events_from-push start 1 f.taken old.line);
    }

-- where no line stands, all lines are taken
all_taken : (bytes : Bytes) (given : List Event) (lines : LinesState) (moments : MomentsState) (ended : Bool) → lines.ended ≡ ended → is_standing lines.stage ≡ false
    → (f : Follows bytes given lines moments) → f.taken ≡ shown (lines_of bytes ended)
all_taken bytes given lines moments ended e free f =
    sym (append-nil f.taken) ∙ ap (λ (l : List Bytes). f.taken ++ l) (sym (standing_none lines.stage lines.line free))
    ∙ sym f.comes_from.lines ∙ ap (λ (b : Bool). shown (lines_of bytes b)) e

-- the events so far are given
pub given_now : (bytes : Bytes) (given : List Event) (lines : LinesState) (moments : MomentsState) → lines.ended ≡ false → is_standing lines.stage ≡ false
    → Follows bytes given lines moments → given ≡ events_of bytes false
unfolding events_of
given_now bytes given lines moments going free f =
    f.events_are ∙ ap (events_from start 1 false) (all_taken bytes given lines moments false going free f) ∙ events_from-shown start 1 false _

-- at the end of the input only its own event is missing
pub given_at_end : (bytes : Bytes) (given : List Event) (lines : LinesState) (moments : MomentsState) → lines.ended ≡ true → is_standing lines.stage ≡ false
    → Follows bytes given lines moments → given ++ end_event (lines.number + 1) (finished moments) ≡ events_of bytes true
unfolding events_of
given_at_end bytes given lines moments over free f =
    let number : lines.number + 1 ≡ 1 + length f.taken = omega (arith, f.comes_from.number) in
    ap₂ (λ (g : List Event) (s : MomentsState). g ++ end_event (lines.number + 1) (finished s)) f.events_are f.state_is
    ∙ ap (λ (n : ℕ). events_from start 1 false f.taken ++ end_event n (finished (state_after start f.taken))) number
    ∙ sym (events_from-end start 1 f.taken)
    ∙ ap (events_from start 1 true) (all_taken bytes given lines moments true over free f)
    ∙ events_from-shown start 1 true _

given_with-append : (given : List Event) (event : Option Event) → given_with given event ≡ given ++ given_with [] event
given_with-append given None = sym (append-nil given)
given_with-append given (Some event) = refl

taken_number : (old : LinesState) → is_standing old.stage ≡ true → (after_taking old).number ≡ old.number + 1
taken_number old stood = rw stood refl

-- the line that stands is taken, and its word steps the state
pub follows-event : (bytes : Bytes) (given : List Event) (old new : LinesState) (before after : MomentsState) (word : Checked Word) (number : ℕ) (event : Option Event)
    → is_standing old.stage ≡ true → new ≡ after_taking old
    → ((b : Bytes) (t : List Bytes) → ComesFrom b t old → ComesFrom b (t ++ standing old.stage old.line) new)
    → word ≡ word_of old.line before.format → number ≡ new.number
    → given_with [] event ≡ line_event number (word >>= step before) → after ≡ next_state before (word >>= step before)
    → Follows bytes given old before → Follows bytes (given_with given event) new after
follows-event bytes given old new before after word number event stood taken kept word_is number_is event_is after_is f =
    let counted : number ≡ old.number + 1 = number_is ∙ ap (λ (c : LinesState). c.number) taken ∙ taken_number old stood in
    let events : given_with given event ≡ given ++ line_event (old.number + 1) (line_step before old.line) =
    given_with-append given event
    ∙ ap (λ (l : List Event). given ++ l) (event_is ∙ ap₂ (λ (n : ℕ) (w : Checked Word). line_event n (w >>= step before)) counted word_is) in
    let state : after ≡ next_state before (line_step before old.line) = after_is ∙ ap (λ (w : Checked Word). next_state before (w >>= step before)) word_is in
    rw (events, state) (follows-line bytes given old new before stood kept f)

pub given_whole : (bytes : Bytes) (given : List Event) (lines : LinesState) (moments : MomentsState) (over : Checked (Unit {0})) → lines.ended ≡ true → is_standing lines.stage ≡ false
    → over ≡ finished moments → Follows bytes given lines moments → given ++ end_event (lines.number + 1) over ≡ events_of bytes true
given_whole bytes given lines moments over ended free e f =
    ap (λ (o : Checked (Unit {0})). given ++ end_event (lines.number + 1) o) e ∙ given_at_end bytes given lines moments ended free f

-- more bytes were fed
pub follows-fed : (bytes piece : Bytes) (given : List Event) (old new : LinesState) (moments : MomentsState)
    → ((b : Bytes) (t : List Bytes) → ComesFrom b t old → ComesFrom (b ++ piece) t new)
    → Follows bytes given old moments → Follows (bytes ++ piece) given new moments
follows-fed bytes piece given old new moments kept f = record {
  taken = f.taken;
  comes_from = kept bytes f.taken f.comes_from;
  state_is = f.state_is;
  events_are = f.events_are;
}

pub take_two : (xs : Bytes) (i n m : ℕ) → n ≤ m → take i xs ++ take n (take m (drop i xs)) ≡ take (i + n) xs
take_two xs i n m h =
    ap (λ (r : Bytes). take i xs ++ r) (take-take n m (drop i xs) h ∙ sym (drop-take i n xs))
    ∙ ap (λ (r : Bytes). r ++ drop i (take (i + n) xs)) (sym (take-take i (i + n) xs (omega arith)))
    ∙ take-append-drop i (take (i + n) xs)

-- n bytes more of a piece, of which `done` were fed before
pub follows-part : (bytes piece : Bytes) (given : List Event) (old new : LinesState) (moments : MomentsState) (done n : ℕ) → n ≤ length piece - done
    → ((b : Bytes) (t : List Bytes) → ComesFrom b t old → ComesFrom (b ++ take n (take (length piece - done) (drop done piece))) t new)
    → Follows (bytes ++ take done piece) given old moments → Follows (bytes ++ take (done + n) piece) given new moments
follows-part bytes piece given old new moments done n within kept f =
    let part = take n (take (length piece - done) (drop done piece)) in
    subst (λ (b : Bytes). Follows b given new moments)
    (append_assoc bytes (take done piece) part ∙ ap (λ (b : Bytes). bytes ++ b) (take_two piece done n (length piece - done) within))
    (follows-fed (bytes ++ take done piece) part given old new moments kept f)

-- the lines in hand changed, and stand for the same bytes and lines
pub follows-as : (bytes : Bytes) (given : List Event) (old new : LinesState) (moments : MomentsState) → ((b : Bytes) (t : List Bytes) → ComesFrom b t old → ComesFrom b t new)
    → Follows bytes given old moments → Follows bytes given new moments
follows-as bytes given old new moments kept f = record {
  taken = f.taken;
  comes_from = kept bytes f.taken f.comes_from;
  state_is = f.state_is;
  events_are = f.events_are;
}

-- the events given are the first ones of the bytes fed, also while a line stands
pub given_begins : (bytes : Bytes) (given : List Event) (lines : LinesState) (moments : MomentsState) → Follows bytes given lines moments
    → IsFront given (events_of bytes lines.ended)
unfolding events_of
given_begins bytes given lines moments f = (
  events_from (state_after start f.taken) (1 + length f.taken) lines.ended (standing lines.stage lines.line),
  sym (events_from-shown start 1 lines.ended (lines_of bytes lines.ended))
      ∙ ap (events_from start 1 lines.ended) f.comes_from.lines
      ∙ events_from-append start 1 lines.ended f.taken (standing lines.stage lines.line)
      ∙ ap (λ (g : List Event). g ++ events_from (state_after start f.taken) (1 + length f.taken) lines.ended (standing lines.stage lines.line)) (sym f.events_are),
)
