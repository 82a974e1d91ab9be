-- Pieces that are reported, one after the other.
use Rattle.std.proofs.Common.{◌≡◌, ◌≤◌, ◌<◌, ◌-◌, ◌^◌, ◌||◌, ◌∙◌, ℕ, Bool, true, false, List, [], ◌∷◌, ◌++◌, length, take, Option, refl, sym, ap, subst, arith, length-append, append-nil, append_assoc}
use Rattle.std.specs.List.{concat, list_any}
use Rattle.std.specs.Borrow.{Bor, MutBor}
use Rattle.std.proofs.lemmas.List.Folds.{concat-append, list_any-append}
use Rattle.daa_ahead.specs.Bytes.{StreamState, ToldBytes}
use Rattle.daa_ahead.specs.Moves.{Moves}
use Rattle.daa_ahead.specs.Taker.{TakesAll, TakesBytes}
use Rattle.daa_ahead.specs.declared.taker.Calls.{Calls}
use Rattle.daa_ahead.specs.declared.ended.Ended.{Ended}
use Rattle.daa_config.specs.Settings.{Settings}
use Rattle.daa_engine.specs.declared.engine.Engine.{Engine}
use Rattle.daa_lines.specs.LinesOf.{Bytes}
use Rattle.daa_io.specs.Faults.{HasRisen}
use Rattle.daa_replay.specs.declared.events.Progress.{Progress}
use Rattle.daa_replay.specs.declared.batch.Batch.{Batch}
use Rattle.daa_replay.specs.declared.moment.Context.{Context}
use Rattle.daa_replay.specs.declared.lines.Event.{Event}
use Rattle.daa_replay.specs.Lines.{events_of, is_refusal}
use Rattle.daa_replay.specs.declared.events.Left.{Left}
use Rattle.daa_replay.specs.declared.events.Left.TheVariants as left
use Rattle.daa_replay.specs.Inside.Batch.{Fails, Shares, StopsWithin, TakesTexts}
use Rattle.daa_replay.specs.Inside.Events.{CanGive, Gave, HasLines, IsBetween, IsFront, IsGiven}
use Rattle.daa_replay.specs.Inside.Lines.{Follows}
use Rattle.daa_replay.specs.Inside.Checkpoint.{reading}
use Rattle.daa_replay.specs.Inside.Replay.{Course, course, CanReport, Reaches, Writes, Breaks, Steps}
use Rattle.daa_replay.proofs.BatchLemmas.{stops-after, takes-more, takes-nothing}
use Rattle.daa_replay.proofs.GivenLemmas.{as_left, at_start, fed_so_far, given_as, given_first, or_assoc, or_false}

-- ---- the front of a piece

-- nothing of it was fed
pub reaches_nothing : (d : Course) (piece : Bytes) → CanReport d (length piece) → (last : Bool) → Reaches d piece 0 last d
reaches_nothing d piece can last = record {
  same = refl;
  at = at_start (length piece) last d.progress can.between can.room;
  calm = refl;
  events = [];
  gives = λ bytes given is. given_as bytes (bytes ++ []) given (given ++ []) d.progress (sym (append-nil bytes)) (sym (append-nil given)) is;
  refusals = sym (or_false d.progress.any_refused);
  taken = takes-nothing d.settings d.taken;
}

follows_front : (bytes piece : Bytes) (given : List Event) (p : Progress) → IsBetween p → IsGiven bytes given p → Follows (bytes ++ take 0 piece) given p.lines p.moments
follows_front bytes piece given p between is =
    subst (λ (b : Bytes). Follows b given p.lines p.moments) (sym (append-nil bytes)) (as_left bytes given p left.Lines between.left is)

-- all its lines were shared out
pub reaches_shares : (d e : Course) (piece : Bytes) (refused : Bool) → CanReport d (length piece) → e.settings ≡ d.settings → e.faults ≡ d.faults → e.progress.left ≡ d.progress.left
    → e.progress.any_refused ≡ (d.progress.any_refused || refused) → HasLines 0 e.progress.lines
    → Shares d.settings piece (reading 0 d.progress.lines d.progress.moments) (reading (length piece) e.progress.lines e.progress.moments) refused d.taken e.taken
    → (last : Bool) → Reaches d piece (length piece) last e
reaches_shares d e piece refused can same calm stays refusals has x last =
    let left_is : e.progress.left ≡ left.Lines = stays ∙ can.between.left in
    record {
      same = same;
      at = record {
        within = omega arith;
        can = subst (λ (l : Left). CanGive l last (length piece - length piece) e.progress.lines) (sym left_is)
            (record { free = has.free; going = has.going; room = omega (arith, has.room) });
      };
      calm = calm;
      events = x.1.events;
      gives = λ bytes given is. subst (λ (l : Left). Gave l (bytes ++ take (length piece) piece) (given ++ x.1.events) e.progress.lines e.progress.moments) (sym left_is)
          (x.1.gives bytes given (follows_front bytes piece given d.progress can.between is));
      refusals = refusals ∙ ap (λ (b : Bool). d.progress.any_refused || b) x.1.refusals;
      taken = record { text = x.0; is = x.1.texts; taken = x.2 };
    }

-- the sink failed within their texts
pub breaks_fails : (d e : Course) (piece : Bytes) → CanReport d (length piece) → HasRisen d.faults e.faults → d.faults ≤ e.faults
    → Fails d.settings piece (reading 0 d.progress.lines d.progress.moments) d.taken e.taken → (last : Bool) → Breaks d piece last e
breaks_fails d e piece can risen later x last = record {
  risen = risen;
  later = later;
  events = x.events;
  begins = λ bytes given is. given_first bytes piece x.upto.done left.Lines last (given ++ x.events) x.upto.lines x.upto.moments x.within x.can
      (x.gives bytes given (follows_front bytes piece given d.progress can.between is));
  stops = x.stops;
}

-- ---- pieces put together

writes_nothing : (d e : Course) → e ≡ d → IsBetween d.progress → Writes d [] false e
writes_nothing d e same between = subst (λ (x : Course). Writes d [] false x) (sym same) (record {
  same = refl;
  after = between;
  calm = refl;
  events = [];
  gives = λ bytes given is. given_as bytes (bytes ++ []) given (given ++ []) d.progress (sym (append-nil bytes)) (sym (append-nil given)) is;
  refusals = sym (or_false d.progress.any_refused);
  taken = takes-nothing d.settings d.taken;
})

pub writes_join : (d e f : Course) (piece later : Bytes) (last : Bool) → Writes d piece false e → Writes e later last f → Writes d (piece ++ later) last f
writes_join d e f piece later last w v = record {
  same = v.same ∙ w.same;
  after = v.after;
  calm = v.calm ∙ w.calm;
  events = w.events ++ v.events;
  gives = λ bytes given is. given_as ((bytes ++ piece) ++ later) (bytes ++ (piece ++ later)) ((given ++ w.events) ++ v.events) (given ++ (w.events ++ v.events)) f.progress
      (append_assoc bytes piece later) (append_assoc given w.events v.events) (v.gives (bytes ++ piece) (given ++ w.events) (w.gives bytes given is));
  refusals = v.refusals ∙ ap (λ (b : Bool). b || list_any is_refusal v.events) w.refusals
      ∙ or_assoc d.progress.any_refused (list_any is_refusal w.events) (list_any is_refusal v.events)
      ∙ ap (λ (b : Bool). d.progress.any_refused || b) (sym (list_any-append is_refusal w.events v.events));
  taken = takes-more d.settings w.events v.events d.taken e.taken f.taken w.taken
      (subst (λ (s : Settings). TakesTexts s v.events e.taken f.taken) w.same v.taken);
}

pub breaks_join : (d e f : Course) (piece later : Bytes) (last : Bool) → Writes d piece false e → Breaks e later last f → Breaks d (piece ++ later) last f
breaks_join d e f piece later last w v = record {
  risen = subst (λ (n : ℕ). HasRisen n f.faults) w.calm v.risen;
  later = omega (arith, w.calm, v.later);
  events = w.events ++ v.events;
  begins = λ bytes given is. subst (λ (g : List Event). IsFront g (events_of (bytes ++ (piece ++ later)) last)) (append_assoc given w.events v.events)
      (subst (λ (b : Bytes). IsFront ((given ++ w.events) ++ v.events) (events_of b last)) (append_assoc bytes piece later)
      (v.begins (bytes ++ piece) (given ++ w.events) (w.gives bytes given is)));
  stops = stops-after d.settings w.events v.events d.taken e.taken f.taken w.taken
      (subst (λ (s : Settings). StopsWithin s v.events e.taken f.taken) w.same v.stops);
}

concat_last : (front : List Bytes) (last : Bytes) → concat (front ++ last ∷ []) ≡ concat front ++ last
concat_last front last = concat-append front (last ∷ []) ∙ ap (λ (b : Bytes). concat front ++ b) (append-nil last)

-- ---- a taker whose pieces are steps of a course

module _ {T : Type 0} (takes : T → Bytes → Bool → T → Type 0) (desk_of : T → Course)
    (steps : (t : T) (piece : Bytes) (answer : Bool) (u : T) → takes t piece answer u → Steps (desk_of t) piece answer (desk_of u)) where
  pub writes_all : (a : T) (pieces : List Bytes) (b : T) → IsBetween (desk_of a).progress → TakesAll takes a pieces b → Writes (desk_of a) (concat pieces) false (desk_of b)
  unfolding TakesAll
  writes_all a [] b between t = writes_nothing (desk_of a) (desk_of b) (ap desk_of t) between
  writes_all a (piece ∷ pieces) b between t =
      let w = steps a piece true t.0 t.1 in
      writes_join (desk_of a) (desk_of t.0) (desk_of b) piece (concat pieces) false w (writes_all t.0 pieces b w.after t.2)

  pub steps_bytes : (more : Bool) (a b : T) (bytes : Bytes) → IsBetween (desk_of a).progress → TakesBytes takes more a b bytes → Steps (desk_of a) bytes more (desk_of b)
  steps_bytes true a b bytes between t = subst (λ (x : Bytes). Writes (desk_of a) x false (desk_of b)) t.bytes_are (writes_all a t.pieces b between t.taken)
  steps_bytes false a b bytes between t =
      let s = t.taken in
      subst (λ (x : Bytes). Breaks (desk_of a) x false (desk_of b)) (sym (concat_last s.front s.last) ∙ ap concat (sym s.pieces_are) ∙ t.bytes_are)
      (breaks_join (desk_of a) (desk_of s.mid) (desk_of b) (concat s.front) s.last false (writes_all a s.front s.mid between s.wanted) (steps s.mid s.last false b s.refused))

  -- it may be given a piece after others
  pub can_report : (most : ℕ) (a : T) (pieces : List Bytes) (later : T) (piece : Bytes) → IsBetween (desk_of a).progress → IsGiven [] [] (desk_of a).progress → most < 2 ^ 63
      → TakesAll takes a pieces later → length (concat (pieces ++ piece ∷ [])) ≤ most → CanReport (desk_of later) (length piece)
  can_report most a pieces later piece between begun bound t fits =
      let w = writes_all a pieces later between t in
      record {
        between = w.after;
        room = omega (
          arith,
          bound,
          fits,
          fed_so_far (concat pieces) w.events (desk_of later).progress w.after (w.gives [] [] begun),
          ap length (concat_last pieces piece),
          length-append (concat pieces) piece,
        );
      }

-- what stays over a piece stays over all
module _ {T X : Type 0} (takes : T → Bytes → Bool → T → Type 0) (name : T → X) (stays : (t : T) (piece : Bytes) (answer : Bool) (u : T) → takes t piece answer u → name u ≡ name t) where
  stays_all : (a : T) (pieces : List Bytes) (b : T) → TakesAll takes a pieces b → name b ≡ name a
  unfolding TakesAll
  stays_all a [] b t = ap name t
  stays_all a (piece ∷ pieces) b t = stays_all t.0 pieces b t.2 ∙ stays a piece true t.0 t.1

  pub stays_bytes : (more : Bool) (a b : T) (bytes : Bytes) → TakesBytes takes more a b bytes → name b ≡ name a
  stays_bytes true a b bytes t = stays_all a t.pieces b t.taken
  stays_bytes false a b bytes t = let s = t.taken in stays s.mid s.last false b s.refused ∙ stays_all a s.front s.mid s.wanted

-- ---- the closure that reports

-- what it holds: the context, the engine, the sink, how far the report has come, and the lanes
abbrev pub Held : Type 0 → Type 0 → Type 0 → Type 0
Held R K G = Calls (Bor (Context R G) × MutBor Engine × MutBor K × MutBor Progress × MutBor (Option Batch))

abbrev pub held_desk : {R K G : Type 0} → (K → ToldBytes) → (K → ℕ) → Held R K G → Course
held_desk taken faults t = course t.call.1.now.settings t.call.3.now (taken t.call.2.now) (faults t.call.2.now)

-- the same of a part of what moved
pub moves_of : (places : ℕ) (ended : Ended) (most : ℕ) (old new : StreamState) (P Q : Bytes → Type 0) → ((bytes : Bytes) → P bytes → Q bytes)
    → Moves places ended most old new P → Moves places ended most old new Q
moves_of places ended most old new P Q f m = record { taken = m.taken; bound = m.bound; read = m.read; given = f m.taken m.given; never_falls = m.never_falls }
