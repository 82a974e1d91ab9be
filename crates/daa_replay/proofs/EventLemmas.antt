-- The events of an input that goes on.
use Rattle.std.proofs.Common.{ℕ, ◌+◌, ◌≡◌, List, [], ◌∷◌, ◌++◌, length, take, arith, refl, sym, ap, ◌∙◌, Bool, true, false, if◌then◌else◌, is_some, Ok, Err, append_assoc, append-nil}
use Rattle.daa_lines.specs.LinesOf.{Bytes, lines_of, shown}
use Rattle.daa_lines.proofs.GrowsLemmas.{Begins, lines_begin, lines_end}
use Rattle.daa_state.specs.Fault.{Checked, ◌>>=◌}
use Rattle.daa_state.specs.declared.fault.LineFault.TheVariants.{Unfinished}
use Rattle.daa_state.specs.declared.word.Word.{Word}
use Rattle.daa_state.specs.MomentStep.{MomentsState, Stepped, start, step, finished}
use Rattle.daa_state.proofs.WordLaws.{word_of-take}
use Rattle.daa_replay.specs.declared.lines.Event.{Event}
use Rattle.daa_replay.specs.declared.lines.Event.TheVariants as event
use Rattle.daa_replay.specs.Inside.Lines.{state_after}
use Rattle.daa_replay.specs.Inside.Events.{IsFront}
use Rattle.daa_replay.specs.Lines.{line_step, next_state, line_event, events_from, events_of}

-- the events of lines are those of the first ones, and then those of the others
pub events_from-append : (state : MomentsState) (number : ℕ) (ended : Bool) (xs ys : List Bytes) →
    events_from state number ended (xs ++ ys)
    ≡ events_from state number false xs ++ events_from (state_after state xs) (number + length xs) ended ys
events_from-append state number ended [] ys = ap (λ (n : ℕ). events_from state n ended ys) (omega arith)
events_from-append state number ended (line ∷ xs) ys =
    let s = line_step state line in
    let next = next_state state s in
    let first = line_event number s in
    let middle = events_from next (number + 1) false xs in
    let last = events_from (state_after next xs) ((number + 1) + length xs) ended ys in
    let same : (number + 1) + length xs ≡ number + length (line ∷ xs) = omega arith in
    ap (λ (l : List Event). first ++ l) (events_from-append next (number + 1) ended xs ys)
    ∙ sym (append_assoc first middle last)
    ∙ ap (λ (n : ℕ). (first ++ middle) ++ events_from (state_after next xs) n ended ys) same

pub state_after-append : (state : MomentsState) (xs ys : List Bytes) → state_after state (xs ++ ys) ≡ state_after (state_after state xs) ys
state_after-append state [] ys = refl
state_after-append state (line ∷ xs) ys = state_after-append (next_state state (line_step state line)) xs ys

-- one line more adds its event
pub events_from-push : (state : MomentsState) (number : ℕ) (xs : List Bytes) (line : Bytes) →
    events_from state number false (xs ++ line ∷ [])
    ≡ events_from state number false xs ++ line_event (number + length xs) (line_step (state_after state xs) line)
events_from-push state number xs line =
    events_from-append state number false xs (line ∷ [])
    ∙ ap (λ (l : List Event). events_from state number false xs ++ l) (append-nil _)

-- the event of the end of the input, under the number after the last line's
abbrev pub end_event : ℕ → Checked (Unit {0}) → List Event
end_event number (Ok over) = []
end_event number (Err fault) = event.Refused number fault ∷ []

at_end : (state : MomentsState) (number : ℕ) → events_from state number true [] ≡ end_event number (finished state)
at_end state number = by_open (is_some state.moment)
  where
    by_open : (is_open : Bool) → (if is_open then event.Refused number Unfinished ∷ [] else []) ≡ end_event number (if is_open then Err Unfinished else Ok tt)
    by_open true = refl
    by_open false = refl

-- the end of the input adds its event
pub events_from-end : (state : MomentsState) (number : ℕ) (xs : List Bytes) →
    events_from state number true xs ≡ events_from state number false xs ++ end_event (number + length xs) (finished (state_after state xs))
events_from-end state number xs =
    ap (events_from state number true) (sym (append-nil xs)) ∙ events_from-append state number true xs []
    ∙ ap (λ (l : List Event). events_from state number false xs ++ l) (at_end (state_after state xs) (number + length xs))

-- the events need 256 bytes of a line alone
pub events_from-shown : (state : MomentsState) (number : ℕ) (ended : Bool) (lines : List Bytes) →
    events_from state number ended (shown lines) ≡ events_from state number ended lines
events_from-shown state number true [] = refl
events_from-shown state number false [] = refl
events_from-shown state number ended (line ∷ lines) =
    let same : line_step state (take 256 line) ≡ line_step state line = ap (λ (w : Checked Word). w >>= step state) (word_of-take state.format line) in
    ap (λ (s : Checked Stepped). line_event number s ++ events_from (next_state state s) (number + 1) ended (shown lines)) same
    ∙ ap (λ (l : List Event). line_event number (line_step state line) ++ l)
    (events_from-shown (next_state state (line_step state line)) (number + 1) ended lines)

grows : (ended : Bool) (xs ys : List Bytes) → Begins xs ys → IsFront (events_from start 1 false xs) (events_from start 1 ended ys)
grows ended xs ys b = (
  events_from (state_after start xs) (1 + length xs) ended b.0,
  ap (events_from start 1 ended) b.1 ∙ events_from-append start 1 ended xs b.0,
)

by_shown : (ended : Bool) (xs ys : List Bytes) → Begins (shown xs) (shown ys) → IsFront (events_from start 1 false xs) (events_from start 1 ended ys)
by_shown ended xs ys b =
    let g = grows ended (shown xs) (shown ys) b in
    (g.0, sym (events_from-shown start 1 ended ys) ∙ g.1 ∙ ap (λ (l : List Event). l ++ g.0) (events_from-shown start 1 false xs))

-- the events of a longer stream begin with those of the shorter
pub events_begin : (bytes more : Bytes) → IsFront (events_of bytes false) (events_of (bytes ++ more) false)
unfolding events_of
events_begin bytes more = by_shown false (lines_of bytes false) (lines_of (bytes ++ more) false) (lines_begin bytes more)

-- and so do those of a whole input
pub events_end : (bytes : Bytes) → IsFront (events_of bytes false) (events_of bytes true)
unfolding events_of
events_end bytes = by_shown true (lines_of bytes false) (lines_of bytes true) (lines_end bytes)
