-- What the events given so far are of an input.
use Rattle.std.proofs.Common.{◌≡◌, ◌∙◌, ◌<◌, ◌≤◌, ◌+◌, ◌-◌, ◌^◌, ℕ, Bool, true, false, List, [], ◌∷◌, ◌++◌, ◌||◌, length, take, drop, refl, sym, ap, subst, arith, append_assoc, append-nil}
use Rattle.std.specs.List.{list_any}
use Rattle.std.proofs.lemmas.List.{take_all, take-append-drop}
use Rattle.std.proofs.lemmas.List.Folds.{list_any-append}
use Rattle.daa_lines.specs.LinesOf.{Bytes}
use Rattle.daa_lines.specs.LinesState.{LinesState}
use Rattle.daa_state.specs.MomentStep.{MomentsState}
use Rattle.daa_replay.specs.declared.lines.Event.{Event}
use Rattle.daa_replay.specs.declared.events.Left.{Left}
use Rattle.daa_replay.specs.declared.events.Left.TheVariants as left
use Rattle.daa_replay.specs.declared.events.Progress.{Progress}
use Rattle.daa_replay.specs.Lines.{events_of, is_refusal}
use Rattle.daa_replay.specs.Inside.Events.{CanGive, Gave, IsAfter, IsAt, IsBetween, IsFront, IsGiven}
use Rattle.daa_replay.proofs.EventLemmas.{events_begin, events_end}
use Rattle.daa_replay.proofs.FollowsLemmas.{given_begins, given_now}

pub front-trans : (xs ys zs : List Event) → IsFront xs ys → IsFront ys zs → IsFront xs zs
front-trans xs ys zs a b = (a.0 ++ b.0, b.1 ∙ ap (λ (l : List Event). l ++ b.0) a.1 ∙ append_assoc xs a.0 b.0)

module _ (bytes piece : Bytes) (done : ℕ) where
  abbrev fed : Bytes
  fed = bytes ++ take done piece

  going_on : IsFront (events_of fed false) (events_of (bytes ++ piece) false)
  going_on = subst (λ (b : Bytes). IsFront (events_of fed false) (events_of b false))
      (append_assoc bytes (take done piece) (drop done piece) ∙ ap (λ (b : Bytes). bytes ++ b) (take-append-drop done piece))
      (events_begin fed (drop done piece))

  -- the events of what was fed are the first ones of the whole piece, whether it is the last or not
  longer : (last : Bool) → IsFront (events_of fed false) (events_of (bytes ++ piece) last)
  longer false = going_on
  longer true = front-trans (events_of fed false) (events_of (bytes ++ piece) false) (events_of (bytes ++ piece) true) going_on (events_end (bytes ++ piece))

  whole : done ≤ length piece → length piece - done ≡ 0 → fed ≡ bytes ++ piece
  whole within none = ap (λ (b : Bytes). bytes ++ b) (take_all done piece (omega (arith, none)))

  pub given_first : (left : Left) (last : Bool) (given : List Event) (lines : LinesState) (moments : MomentsState) → done ≤ length piece
      → CanGive left last (length piece - done) lines → Gave left fed given lines moments → IsFront given (events_of (bytes ++ piece) last)
  given_first left.Lines last given lines moments within can g =
      let now = given_begins fed given lines moments g in
      front-trans given (events_of fed false) (events_of (bytes ++ piece) last) (now.0, ap (events_of fed) (sym can.going) ∙ now.1) (longer last)
  given_first left.End last given lines moments within can g =
      let now = given_begins fed given lines moments g in
      (now.0, ap (λ (b : Bytes). events_of b last) (sym (whole within can.1.none)) ∙ ap (events_of fed) (can.1.ends ∙ sym can.0.ended) ∙ now.1)
  given_first left.Nothing last given lines moments within can g =
      ([], ap (λ (b : Bytes). events_of b last) (sym (whole within can.none)) ∙ ap (events_of fed) can.ends ∙ sym g ∙ sym (append-nil given))

  -- the events given are the first ones of the whole piece
  pub first_of : (last : Bool) (given : List Event) (p : Progress) → IsAt (length piece) done last p → IsGiven fed given p
      → IsFront given (events_of (bytes ++ piece) last)
  first_of last given p at g = given_first p.left last given p.lines p.moments at.within at.can g

pub as_left : (bytes : Bytes) (given : List Event) (p : Progress) (l : Left) → p.left ≡ l → IsGiven bytes given p → Gave l bytes given p.lines p.moments
as_left bytes given p l e g = subst (λ (x : Left). Gave x bytes given p.lines p.moments) e g

pub given_as : (b c : Bytes) (g h : List Event) (p : Progress) → b ≡ c → g ≡ h → IsGiven b g p → IsGiven c h p
given_as b c g h p e f is = subst (λ (x : Bytes). IsGiven x h p) e (subst (λ (x : List Event). IsGiven b x p) f is)

-- after a piece all events so far are given
pub all_of : (last : Bool) (bytes : Bytes) (given : List Event) (p : Progress) → IsAfter last p → IsGiven bytes given p → given ≡ events_of bytes last
all_of true bytes given p after g = as_left bytes given p left.Nothing after g
all_of false bytes given p after g = given_now bytes given p.lines p.moments after.going after.free (as_left bytes given p left.Lines after.left g)

pub fed_so_far : (bytes : Bytes) (given : List Event) (p : Progress) → IsBetween p → IsGiven bytes given p → p.lines.fed ≡ length bytes
fed_so_far bytes given p between g = (as_left bytes given p left.Lines between.left g).comes_from.fed

-- a further piece may be given
pub at_start : (size : ℕ) (last : Bool) (p : Progress) → IsBetween p → p.lines.fed + size < 2 ^ 63 → IsAt size 0 last p
at_start size last p between room = record {
  within = omega arith;
  can = subst (λ (x : Left). CanGive x last (size - 0) p.lines) (sym between.left)
      (record { free = between.free; going = between.going; room = omega (arith, room) });
}

-- ---- refusals

pub or_false : (b : Bool) → (b || false) ≡ b
or_false true = refl
or_false false = refl

pub or_assoc : (a b c : Bool) → ((a || b) || c) ≡ (a || (b || c))
or_assoc true b c = refl
or_assoc false b c = refl

-- one event more
pub refused_more : (first before now : Bool) (events : List Event) (event : Event) → before ≡ (first || list_any is_refusal events) → now ≡ (before || is_refusal event)
    → now ≡ (first || list_any is_refusal (events ++ event ∷ []))
refused_more first before now events event h k =
    k ∙ ap (λ (b : Bool). b || is_refusal event) h ∙ or_assoc first (list_any is_refusal events) (is_refusal event)
    ∙ ap (λ (b : Bool). first || b) (ap (λ (b : Bool). list_any is_refusal events || b) (sym (or_false (is_refusal event))) ∙ sym (list_any-append is_refusal events (event ∷ [])))
