-- What a step of one seat owes, and that the rule then holds after it.
use Rattle.std.proofs.Common.{◌≡◌, ◌≢◌, ℕ, ◌+◌, ◌<◌, ◌≤◌, inl, inr, ⊎_elim, Bool, true, false, List, [], ◌++◌, set, sym, refl, ap, ◌∙◌, subst, arith}
use mathlib.Core.Option.{Option, some, some-injective}
use mathlib.Core.Logic.{dite}
use native.Mathlib.Decide.{ℕ_discrete}
use lib.ListN.{get_elem?}
use Rattle.std.specs.List.{Contains}
use Rattle.atomic_table.proofs.Lists.{at_set, set_here, set_else}
use Rattle.daa_schedule.specs.CoreState.{CoreState, range_at, hand_at, has_ended, opened, times_on, IsWhole}
use Rattle.daa_schedule.specs.Inside.CoreState.{IsShaped}
use Rattle.daa_schedule.specs.Runs.{steps_of, IsHistory}
use Rattle.daa_schedule.specs.declared.step.Step.{Step}
use Rattle.daa_schedule.proofs.Histories.{steps_of-append}
use Rattle.std.proofs.lemmas.Bool.{true≢false}
use Rattle.std.proofs.lemmas.List.{append-nil}
use Rattle.daa_pool.specs.declared.view.View.{View}
use Rattle.daa_pool.specs.declared.view.Part.{Part}
use Rattle.daa_pool.specs.View.{times, part_of}
use Rattle.daa_pool.specs.Inside.View.{HasNumber}
use Rattle.daa_pool.specs.History.{IsPartOf}
use Rattle.daa_pool.specs.Seat.{IsSameSeat}
use Rattle.daa_pool.specs.Inside.Rule.{Pools, word_at, Shows, IsSeated, IsHeld, Ruled}
use Rattle.daa_pool.proofs.Lists.{found_at, total_set}
use Rattle.daa_pool.proofs.History.{Sees, part_still, part_more}

-- the other workers of the core are as they were, but a range may be shorter
pub record IsLike (c d : CoreState) (m : ℕ) : Type 0 where
  pub hand : hand_at d m ≡ hand_at c m
  pub over : has_ended d m ≡ has_ended c m
  pub first : (range_at d m).first ≡ (range_at c m).first
  pub upto : (range_at d m).upto ≤ (range_at c m).upto

-- a live view among seats that are counted or numbered anew. It may have given the count of seats made to another
pub seated_anew : (c : CoreState) (log : List Step) (workers made made' carrier carrier' : ℕ) (holder holder' : ℕ → ℕ) (id : ℕ) (v : View) (b : Bool)
    → ((n : ℕ) → HasNumber v n → (n < made') × (holder' n ≡ id)) → (b ≡ true → (id ≡ carrier') × (v.made ≡ made'))
    → IsSeated c log workers made carrier holder id v → IsSeated c log workers made' carrier' holder' id (record v { carries = b })
seated_anew c log workers made made' carrier carrier' holder holder' id v b number carries o = record {
  number = number;
  carries = carries;
  crew = o.crew;
  answers = o.answers;
  hand = o.hand;
  over = o.over;
  part = o.part;
  joined = o.joined;
  first = o.first;
  upto = o.upto;
}

pub record SamePlace (v w : View) : Type 0 where
  pub live : w.live ≡ v.live
  pub same_seat : IsSameSeat v w

-- the core c becomes d, the words become words', and the seat's view v becomes w
pub record Moves (workers made : ℕ) (words words' : List ℕ) (c d : CoreState) (v w : View) : Type 0 where
  pub shaped : IsShaped d
  pub whole : IsWhole d
  pub answers : d.answers ≡ c.answers
  pub shows : Shows words' workers d
  pub hand : hand_at d v.number ≡ w.hand
  pub over : has_ended d v.number ≡ w.over
  pub first : (range_at d v.number).first ≡ w.bound.first
  pub upto : (range_at d v.number).upto ≤ w.bound.upto
  pub others : (m : ℕ) → m ≢ v.number → IsLike c d m
  pub unmade : (m : ℕ) → made ≤ m → m < workers → word_at words' m ≡ word_at words m
  pub settled : (u : ℕ) → times u w.settled + times_on u c.board ≡ times u v.settled + times_on u d.board
  pub steps : List Step
  pub path : (log : List Step) → IsHistory (opened c.answers workers) log c → IsHistory (opened d.answers workers) (log ++ steps) d
  pub moves : w.moves ≡ v.moves ++ steps
  pub mine : steps_of v.number steps ≡ steps
  pub not_others : (m : ℕ) → m ≢ v.number → steps_of m steps ≡ []
  pub sees : Sees (opened c.answers workers) c v w

module _ (workers : ℕ) (s : Pools) (r : Ruled workers s) (id : ℕ) (v w : View) (at : get_elem? s.views id ≡ some v) (alive : v.live ≡ true)
    (going : v.over ≡ false) (same : SamePlace v w) where
  same_seat : IsSameSeat v w
  same_seat = same.same_seat

  abbrev own : IsSeated r.core r.log workers r.made r.carrier r.holder id v
  own = r.seats id v at alive

  same_number : (n : ℕ) → HasNumber v n → HasNumber w n
  same_number n (inl e) = inl (same_seat.number ∙ e)
  same_number n (inr h) = inr (h.0, subst (λ (parts : List Part). Contains parts h.0) (sym same_seat.joined) h.1, h.2)

  same_number' : (n : ℕ) → HasNumber w n → HasNumber v n
  same_number' n (inl e) = inl (sym same_seat.number ∙ e)
  same_number' n (inr h) = inr (h.0, subst (λ (parts : List Part). Contains parts h.0) same_seat.joined h.1, h.2)

  here : get_elem? (set s.views id w) id ≡ some w
  here = let p = found_at s.views id v v at in set_here s.views id w p.0

  -- a live view that had the number has it still
  held_still : (i n : ℕ) → IsHeld s.views i n → IsHeld (set s.views id w) i n
  held_still i n h = dite (ℕ_discrete i id)
      (λ e. let x : View = h.0 in let is : x ≡ v = some-injective x v (sym h.1 ∙ (ap (λ (k : ℕ). get_elem? s.views k) e ∙ at)) in
      (w, ap (λ (k : ℕ). get_elem? (set s.views id w) k) e ∙ here, same.live ∙ alive, same_number n (subst (λ (y : View). HasNumber y n) is h.3)))
      (λ n'. (h.0, set_else s.views id i w n' ∙ h.1, h.2, h.3))

  -- the worker of another seat has another number
  apart : (j m : ℕ) → j ≢ id → r.holder m ≡ j → m ≢ v.number
  apart j m ne h e = let o = own in let p = o.number v.number (inl refl) in ne ((sym h ∙ ap r.holder e) ∙ p.1)

  module _ (ws : List ℕ) (d : CoreState) (homes : List (Option (Unit {0}))) (moves : Moves workers r.made s.words ws r.core d v w) where
    like : (m : ℕ) → m ≢ v.number → IsLike r.core d m
    like = moves.others

    -- what another worker did and saw
    its_part : (part : Part) → part.number ≢ v.number → IsPartOf (opened r.core.answers workers) r.log part → IsPartOf (opened d.answers workers) (r.log ++ moves.steps) part
    its_part part n p = subst (λ (xs : List ℕ). IsPartOf (opened xs workers) (r.log ++ moves.steps) part) (sym moves.answers)
        (part_still (opened r.core.answers workers) r.log moves.steps part (moves.not_others part.number n) p)

    own_part : IsPartOf (opened d.answers workers) (r.log ++ moves.steps) (part_of w)
    own_part = let o = own in let p = o.part in let sees = moves.sees in subst (λ (xs : List ℕ). IsPartOf (opened xs workers) (r.log ++ moves.steps) (part_of w)) (sym moves.answers)
        (part_more (opened r.core.answers workers) r.log moves.steps v w sees.seen same_seat.number moves.moves sees.looks moves.mine (sees.so r.log r.history p.moves) p)

    own_seated : IsSeated d (r.log ++ moves.steps) workers r.made r.carrier r.holder id w
    own_seated = let o = own in record {
      number = λ n h. o.number n (same_number' n h);
      carries = λ c. let p = o.carries (sym same_seat.carries ∙ c) in (p.0, same_seat.made ∙ p.1);
      crew = same_seat.workers ∙ o.crew;
      answers = same_seat.answers ∙ (o.answers ∙ sym moves.answers);
      hand = ap (λ (m : ℕ). hand_at d m) same_seat.number ∙ moves.hand;
      over = ap (λ (m : ℕ). has_ended d m) same_seat.number ∙ moves.over;
      part = own_part;
      joined = λ part h. let p = o.joined part (subst (λ (parts : List Part). Contains parts part) same_seat.joined h) in
          let ne : part.number ≢ v.number = (λ e. true≢false ((sym p.1 ∙ ap (λ (m : ℕ). has_ended r.core m) e) ∙ (o.over ∙ going))) in
          let l = like part.number ne in (l.hand ∙ p.0, l.over ∙ p.1, its_part part ne p.2);
      first = ap (λ (m : ℕ). (range_at d m).first) same_seat.number ∙ moves.first;
      upto = subst (λ (m : ℕ). (range_at d m).upto ≤ w.bound.upto) (sym same_seat.number) moves.upto;
    }

    other_seated : (j : ℕ) (x : View) → j ≢ id → IsSeated r.core r.log workers r.made r.carrier r.holder j x → IsSeated d (r.log ++ moves.steps) workers r.made r.carrier r.holder j x
    other_seated j x ne o =
        let ne' = apart j x.number ne (o.number x.number (inl refl)).1 in let l = like x.number ne' in record {
          number = o.number;
          carries = o.carries;
          crew = o.crew;
          answers = o.answers ∙ sym moves.answers;
          hand = l.hand ∙ o.hand;
          over = l.over ∙ o.over;
          part = its_part (part_of x) ne' o.part;
          joined = λ part h. let p = o.joined part h in let ne'' = apart j part.number ne (o.number part.number (inr (part, h, refl))).1 in
              let k = like part.number ne'' in (k.hand ∙ p.0, k.over ∙ p.1, its_part part ne'' p.2);
          first = l.first ∙ o.first;
          upto = let a = l.upto in let b = o.upto in omega arith;
        }

    pub follows : Ruled workers (record { words = ws; homes = homes; views = set s.views id w })
    follows = record {
      core = d;
      made = r.made;
      carrier = r.carrier;
      holder = r.holder;
      shaped = moves.shaped;
      whole = moves.whole;
      shows = moves.shows;
      log = r.log ++ moves.steps;
      history = moves.path r.log r.history;
      fits = r.fits;
      held = λ n h. held_still (r.holder n) n (r.held n h);
      carried = let c = r.carried in dite (ℕ_discrete r.carrier id)
          (λ e. let x : View = c.0 in let is : x ≡ v = some-injective x v (sym c.1 ∙ (ap (λ (k : ℕ). get_elem? s.views k) e ∙ at)) in
          (w, ap (λ (k : ℕ). get_elem? (set s.views id w) k) e ∙ here, same.live ∙ alive, same_seat.carries ∙ (ap (λ (y : View). y.carries) (sym is) ∙ c.3)))
          (λ n. (c.0, set_else s.views id r.carrier w n ∙ c.1, c.2, c.3));
      unmade = λ n a b. let u = r.unmade n a b in
          let ne : n ≢ v.number = (λ e. let p = (own).number v.number (inl refl) in absurd (let q = p.0 in omega arith)) in let l = like n ne in
          record {
            word = moves.unmade n a b ∙ u.word;
            hand = l.hand ∙ u.hand;
            going = l.over ∙ u.going;
            moves = steps_of-append n r.log moves.steps ∙ (ap (λ (l : List Step). steps_of n r.log
                ++ l) (moves.not_others n ne) ∙ (append-nil (steps_of n r.log) ∙ u.moves));
          };
      seats = λ j x e l. ⊎_elim
          (λ t. subst (λ (p : ℕ × View). IsSeated d (r.log ++ moves.steps) workers r.made r.carrier r.holder p.0 p.1) (λ i. (sym t.0 i, t.1 i)) own_seated)
          (λ t. other_seated j x t.0 (r.seats j x t.1 l))
          (at_set s.views id j w x e);
      others = λ j x e l. ⊎_elim
          (λ t. absurd (true≢false (sym (same.live ∙ alive) ∙ (ap (λ (y : View). y.live) t.1 ∙ l))))
          (λ t. r.others j x t.1 l)
          (at_set s.views id j w x e);
      settled = λ u. let t = total_set (λ (x : View). times u x.settled) s.views id v w at in let a = r.settled u in let b = moves.settled u in omega arith;
    }
