-- The steps of a seat on its own range, and on a unit's word.
use Rattle.std.proofs.Common.{◌≡◌, ◌≢◌, ℕ, ◌+◌, ◌^◌, ◌<◌, ◌≤◌, inl, inr, Bool, true, false, eqb}
use Rattle.std.proofs.Common.{List, [], ◌∷◌, ◌++◌, length, set, slice_index, sym, refl, ap, ◌∙◌}
use Rattle.std.proofs.Common.{subst, arith, get_or-set_same, get_or-set_other, eq-eqb, ne_eqb}
use Rattle.std.proofs.lemmas.List.{set-get_or, append-nil}
use mathlib.Core.Option.{none, some}
use mathlib.Core.Logic.{dite}
use native.Mathlib.Decide.{ℕ_discrete}
use prog.Atomic.{either}
use lib.ListN.{get_elem?}
use Rattle.atomic_table.specs.Table.{step, keeps, stepped, Allows}
use Rattle.daa_range.specs.Range.{RangeState, range_of, range_len, first_unit_of, rest_of, times_in}
use Rattle.daa_range.specs.Word.{packed, unpacked}
use Rattle.daa_range.proofs.Words.{unpacked-packed, unpacked-in_order}
use Rattle.daa_schedule.specs.CoreState.{CoreState, no_units, range_at, hand_at, opened, times_on}
use Rattle.daa_schedule.specs.Step.{moved}
use Rattle.daa_schedule.specs.Runs.{IsHistory}
use Rattle.daa_schedule.specs.declared.step.Step.{Step}
use Rattle.daa_schedule.proofs.Histories.{one_more, steps_of_own, steps_of_other, claims_none, settles_none, ends_none}
use Rattle.daa_schedule.specs.declared.step.Step.TheVariants as core
use Rattle.daa_schedule.proofs.Faults.{Claims, Settles, Ends}
use Rattle.daa_schedule.proofs.Steps.{claim_whole, claim_shaped, settle_whole, settle_shaped, end_whole, end_shaped, in_hand, in_range}
use Rattle.daa_range.proofs.Ranges.{times_in_inside}
use Rattle.daa_pool.proofs.DistinctUnits.{few_settled}
use Rattle.daa_pool.specs.declared.view.View.{View}
use Rattle.daa_pool.specs.declared.view.Look.{Look}
use Rattle.daa_pool.specs.declared.pool.Size.{Size}
use Rattle.daa_pool.specs.View.{settled, times}
use Rattle.daa_pool.specs.Inside.View.{look, looked_home, claimed, ended}
use Rattle.daa_pool.specs.Inside.Rule.{Pools, word_at, Shows, IsSeated, Ruled, Holds}
use Rattle.daa_pool.specs.Inside.Steps.{Sat, IsHome, looks_home, claims, settles, ends}
use Rattle.daa_pool.specs.Seat.{IsFree, HasPiece}
use Rattle.daa_pool.proofs.Lists.{found_at}
use Rattle.daa_pool.proofs.Views.{not_blank}
use Rattle.daa_pool.proofs.History.{sees_nothing, sees_range}
use Rattle.atomic_table.proofs.Lists.{set_here}
use Rattle.daa_pool.proofs.StepDuties.{IsLike, SamePlace, Moves, follows}
use Rattle.daa_pool.proofs.Words.{packed_in_order, word_is, shows_range, shows_board, times_settle}

-- only what a seat does has changed, and not its place
pub same_place : (v : View) (b h : RangeState) (st : List ℕ) (ls : List Look) (o : Bool) (ms : List Step)
    → SamePlace v (record v { bound = b; hand = h; settled = st; looks = ls; over = o; moves = ms })
same_place v b h st ls o ms = record { live = refl; same_seat = record { number = refl; workers = refl; answers = refl; joined = refl; carries = refl; made = refl } }

pub like_itself : (c : CoreState) (m : ℕ) → IsLike c c m
like_itself c m = record { hand = refl; over = refl; first = refl; upto = omega arith }

module _ (workers : ℕ) (s : Pools) (r : Ruled workers s) (id : ℕ) (v : View) (at : get_elem? s.views id ≡ some v) (alive : v.live ≡ true) where
  pub own : IsSeated r.core r.log workers r.made r.carrier r.holder id v
  own = r.seats id v at alive

  pub known : v.number < workers
  known = let o = own in let p = o.number v.number (inl refl) in let a = p.0 in let b = r.fits in omega arith

  pub ranges_known : v.number < length r.core.ranges
  ranges_known = let k = known in let sh = r.shows in let c = sh.crew in omega arith

  pub home_word : range_at r.core v.number ≡ unpacked (word_at s.words v.number)
  home_word = let sh = r.shows in sh.ranges v.number known

  pub is_home : IsHome v (word_at s.words v.number)
  is_home = let o = own in let sh = r.shows in let order = sh.in_order v.number known in let is = home_word ∙ unpacked-in_order (word_at s.words v.number) order in
      let a = ap (λ (x : RangeState). x.first) is in let b = ap (λ (x : RangeState). x.upto) is in
      let f = o.first in let u = o.upto in
      record { in_order = order; first = sym a ∙ f; upto = omega arith }

  -- nothing has changed but what the seat has seen, which is a worker's range
  pub stays : (ws : List ℕ) (w : View) (other : ℕ)
      → other < workers → w.looks ≡ v.looks ++ look v other (word_at s.words other) ∷ []
      → ws ≡ s.words → w.hand ≡ v.hand → w.over ≡ v.over → w.settled ≡ v.settled → w.moves ≡ v.moves
      → (range_at r.core v.number).first ≡ w.bound.first → (range_at r.core v.number).upto ≤ w.bound.upto → Moves workers r.made s.words ws r.core r.core v w
  stays ws w other there looks e hand over settled moves first upto = let o = own in let sh = r.shows in record {
    shaped = r.shaped;
    whole = r.whole;
    answers = refl;
    shows = subst (λ (xs : List ℕ). Shows xs workers r.core) (sym e) r.shows;
    hand = o.hand ∙ sym hand;
    over = o.over ∙ sym over;
    first = first;
    upto = upto;
    others = λ m n. like_itself r.core m;
    unmade = λ m a b. ap (λ (xs : List ℕ). word_at xs m) e;
    settled = λ u. ap (λ (xs : List ℕ). times u xs + times_on u r.core.board) settled;
    steps = [];
    path = λ log h. subst (λ (l : List Step). IsHistory (opened r.core.answers workers) l r.core) (sym (append-nil log)) h;
    moves = moves ∙ sym (append-nil v.moves);
    mine = refl;
    not_others = λ m n. refl;
    sees = sees_range (opened r.core.answers workers) r.core v w other (word_at s.words other) (sh.in_order other there) (sh.ranges other there) looks;
  }

  pub looks_home_moves : (ws : List ℕ) → ws ≡ s.words → Moves workers r.made s.words ws r.core r.core v (looked_home v (word_at s.words v.number))
  looks_home_moves ws e = stays ws (looked_home v (word_at s.words v.number)) v.number known refl e refl refl refl refl
      (ap (λ (x : RangeState). x.first) home_word) (let b = ap (λ (x : RangeState). x.upto) home_word in omega arith)

pub look_home_allowed : (k : Size) (slots id : ℕ) (me : Sat) → me.0.live ≡ true → me.0.over ≡ false
    → Allows (Holds k) slots id me me.0.number (λ n. n) (looks_home (step slots me.0.number 0 0 none) me)
look_home_allowed k slots id me alive going s (inl b) long at small = absurd (not_blank k.workers k.units s id me.0 b at alive)
look_home_allowed k slots id me alive going s (inr r) long at small = let v : View = me.0 in let x : ℕ = word_at s.words v.number in let w : View = looked_home v x in (
  w,
  keeps,
  tt,
  inr (follows k.workers s r id v w at alive going (same_place v _ _ _ _ _ _) (set s.words v.number x) r.core s.homes
      (looks_home_moves k.workers s r id v at alive (set s.words v.number x) (set-get_or s.words v.number 0))),
  ((refl, refl), is_home k.workers s r id v at alive),
)

-- the first unit of the own range goes to the hand
module _ (workers : ℕ) (s : Pools) (r : Ruled workers s) (id : ℕ) (v : View) (at : get_elem? s.views id ≡ some v) (alive : v.live ≡ true)
    (going : v.over ≡ false) (free : v.hand ≡ no_units) (room : 0 < range_len v.bound) (hit : word_at s.words v.number ≡ packed v.bound) where
  upto_small : v.bound.upto < 2 ^ 32
  upto_small = let h = is_home workers s r id v at alive in let f = h.first in omega arith

  range_is : range_at r.core v.number ≡ v.bound
  range_is = home_word workers s r id v at alive ∙ word_is (word_at s.words v.number) v.bound hit (omega arith) upto_small

  claims_now : Claims r.core v.number
  claims_now = let o = own workers s r id v at alive in record {
    known = ranges_known workers s r id v at alive;
    going = o.over ∙ going;
    free = ap range_len (o.hand ∙ free);
    some = subst (λ (x : RangeState). 0 < range_len x) (sym range_is) room;
  }

  claim_moves : Moves workers r.made s.words (set s.words v.number (packed (rest_of v.bound))) r.core (moved r.core (core.Claim v.number)) v (claimed v)
  claim_moves = let o = own workers s r id v at alive in let k = ranges_known workers s r id v at alive in let sh = r.shaped in let hs = sh.hands in
      let lt : v.bound.upto < 2 ^ 32 = upto_small in
      record {
        shaped = claim_shaped r.core r.shaped r.whole v.number;
        whole = claim_whole r.core r.shaped r.whole v.number claims_now;
        answers = refl;
        shows = shows_range s.words workers r.core r.shows v.number (packed (rest_of v.bound)) (rest_of (range_at r.core v.number)) _ (known workers s r id v at alive)
            (packed_in_order (rest_of v.bound) (omega arith) lt)
            (ap rest_of range_is ∙ sym (unpacked-packed (rest_of v.bound) (omega arith) lt));
        hand = get_or-set_same r.core.hands v.number _ no_units (omega arith) ∙ ap first_unit_of range_is;
        over = o.over;
        first = ap (λ (x : RangeState). x.first) (get_or-set_same r.core.ranges v.number (rest_of (range_at r.core v.number)) no_units k ∙ ap rest_of range_is);
        upto = let e = ap (λ (x : RangeState). x.upto) (get_or-set_same r.core.ranges v.number (rest_of (range_at r.core v.number)) no_units k ∙ ap rest_of range_is) in omega arith;
        others = λ m ne. let a = get_or-set_other r.core.ranges v.number m (rest_of (range_at r.core v.number)) no_units ne in
            record {
              hand = get_or-set_other r.core.hands v.number m _ no_units ne;
              over = refl;
              first =
                  ap (λ (x : RangeState). x.first) a;
              upto = let e = ap (λ (x : RangeState). x.upto) a in omega arith;
            };
        unmade = λ m a b. get_or-set_other s.words v.number m _ 0 (λ e. let p = o.number v.number (inl refl) in let q = p.0 in absurd (omega arith));
        settled = λ u. refl;
        steps = core.Claim v.number ∷ [];
        path = λ log h. one_more (opened r.core.answers workers) log r.core (core.Claim v.number) h (claims_none r.core v.number claims_now);
        moves = refl;
        mine = steps_of_own (core.Claim v.number) v.number refl;
        not_others = λ m n. steps_of_other (core.Claim v.number) m (λ e. n (sym e));
        sees = sees_nothing (opened r.core.answers workers) r.core v _ refl;
      }

  -- the unit that is claimed has an answer
  claim_below : v.bound.first < length v.answers
  claim_below = let o = own workers s r id v at alive in
      subst (λ (xs : List ℕ). v.bound.first < length xs) (sym o.answers)
      (in_range r.core r.shaped r.whole v.number v.bound.first (ranges_known workers s r id v at alive)
      (ap (λ (x : RangeState). times_in v.bound.first x) range_is ∙ times_in_inside v.bound.first v.bound (omega arith) (omega arith)))

pub claim_allowed : (k : Size) (slots id : ℕ) (me : Sat) → me.0.live ≡ true → IsFree me.0 → 0 < range_len me.0.bound
    → Allows (Holds k) slots id me me.0.number (λ n. either (eqb n (packed me.0.bound)) (packed (rest_of me.0.bound)) n)
    (claims (step slots me.0.number (packed me.0.bound) (packed (rest_of me.0.bound)) none) me)
claim_allowed k slots id me alive free room s (inl b) long at small = absurd (not_blank k.workers k.units s id me.0 b at alive)
claim_allowed k slots id me alive free room s (inr r) long at small =
    let v : View = me.0 in let x : ℕ = word_at s.words v.number in let old : ℕ = packed v.bound in let new : ℕ = packed (rest_of v.bound) in
    dite (ℕ_discrete x old)
    (λ hit. (
      claimed v,
      keeps,
      tt,
      subst (λ b. Holds k (stepped s v.number (either b new x) id me.1 (claimed v) keeps)) (sym (eq-eqb x old hit))
          (inr (follows k.workers s r id v (claimed v) at alive free.going (same_place v _ _ _ _ _ _) (set s.words v.number new) _ s.homes
          (claim_moves k.workers s r id v at alive free.going free.hand room hit))),
      ((λ _. ((refl, refl), claim_below k.workers s r id v at alive free.going free.hand room hit)), λ ne. absurd (ne hit)),
    ))
    (λ miss. (
      looked_home v x,
      keeps,
      tt,
      subst (λ b. Holds k (stepped s v.number (either b new x) id me.1 (looked_home v x) keeps)) (sym (ne_eqb x old miss))
          (inr (follows k.workers s r id v (looked_home v x) at alive free.going (same_place v _ _ _ _ _ _) (set s.words v.number x) r.core s.homes
          (looks_home_moves k.workers s r id v at alive (set s.words v.number x) (set-get_or s.words v.number 0)))),
      ((λ e. absurd (miss e)), λ _. ((refl, refl), is_home k.workers s r id v at alive)),
    ))

-- the own empty range is seen, and the worker has ended
module _ (workers : ℕ) (s : Pools) (r : Ruled workers s) (id : ℕ) (v : View) (at : get_elem? s.views id ≡ some v) (alive : v.live ≡ true)
    (free : IsFree v) (bare : range_len v.bound ≡ 0) where
  ends_now : Ends r.core v.number
  ends_now = let o = own workers s r id v at alive in let f = o.first in let u = o.upto in record {
    known = ranges_known workers s r id v at alive;
    free = ap range_len (o.hand ∙ free.hand);
    none = omega arith;
  }

  end_moves : (ws : List ℕ) → ws ≡ s.words → Moves workers r.made s.words ws r.core (moved r.core (core.End v.number)) v (ended v (word_at s.words v.number))
  end_moves ws e = let o = own workers s r id v at alive in let k = ranges_known workers s r id v at alive in let sh = r.shaped in let es = sh.ended in let w = r.shows in
      record {
        shaped = end_shaped r.core r.shaped r.whole v.number;
        whole = end_whole r.core r.shaped r.whole v.number ends_now;
        answers = refl;
        shows = subst (λ (xs : List ℕ). Shows xs workers (moved r.core (core.End v.number))) (sym e)
            (record { wide = w.wide; crew = w.crew; ranges = w.ranges; board = w.board; in_order = w.in_order });
        hand = o.hand;
        over = get_or-set_same r.core.ended v.number true false (omega arith);
        first = o.first;
        upto = o.upto;
        others = λ m ne. record { hand = refl; over = get_or-set_other r.core.ended v.number m true false ne; first = refl; upto = omega arith };
        unmade = λ m a b. ap (λ (xs : List ℕ). word_at xs m) e;
        settled = λ u. refl;
        steps = core.End v.number ∷ [];
        path = λ log h. one_more (opened r.core.answers workers) log r.core (core.End v.number) h (ends_none r.core v.number (o.over ∙ free.going) ends_now);
        moves = refl;
        mine = steps_of_own (core.End v.number) v.number refl;
        not_others = λ m n. steps_of_other (core.End v.number) m (λ e. n (sym e));
        sees = sees_range (opened r.core.answers workers) r.core v _ v.number (word_at s.words v.number)
            (w.in_order v.number (known workers s r id v at alive)) (home_word workers s r id v at alive) refl;
      }

pub end_allowed : (k : Size) (slots id : ℕ) (me : Sat) → me.0.live ≡ true → IsFree me.0 → range_len me.0.bound ≡ 0
    → Allows (Holds k) slots id me me.0.number (λ n. n) (ends (step slots me.0.number 0 0 none) me)
end_allowed k slots id me alive free bare s (inl b) long at small = absurd (not_blank k.workers k.units s id me.0 b at alive)
end_allowed k slots id me alive free bare s (inr r) long at small = let v : View = me.0 in let x : ℕ = word_at s.words v.number in (
  ended v x,
  keeps,
  tt,
  inr (follows k.workers s r id v (ended v x) at alive free.going (same_place v _ _ _ _ _ _) (set s.words v.number x) _ s.homes
      (end_moves k.workers s r id v at alive free bare (set s.words v.number x) (set-get_or s.words v.number 0))),
  (
    (refl, refl),
    (let e = ends_now k.workers s r id v at alive free bare in ap range_len (sym (home_word k.workers s r id v at alive)) ∙ e.none),
    (let o = own k.workers s r id v at alive in let sh = r.shaped in subst (λ (n : ℕ). length v.settled ≤ n) (sh.board ∙ ap length (sym o.answers)) (few_settled k.workers s r id v at)),
  ),
)

-- the hand's one unit gets its answer
module _ (workers : ℕ) (s : Pools) (r : Ruled workers s) (id : ℕ) (v : View) (at : get_elem? s.views id ≡ some v) (alive : v.live ≡ true)
    (f word : ℕ) (piece : HasPiece v f) (right : word ≡ slice_index v.answers f) where
  hand_is : hand_at r.core v.number ≡ range_of f (f + 1)
  hand_is = let o = own workers s r id v at alive in o.hand ∙ piece.hand

  settles_now : Settles r.core v.number word
  settles_now = let o = own workers s r id v at alive in record {
    known = ranges_known workers s r id v at alive;
    going = o.over ∙ piece.going;
    one = ap range_len hand_is ∙ one f;
    right = right ∙ (ap (λ (xs : List ℕ). slice_index xs f) o.answers ∙ ap (λ (x : RangeState). slice_index r.core.answers x.first) (sym hand_is));
  }
    where
      one : (f : ℕ) → range_len (range_of f (f + 1)) ≡ 1
      one f = omega arith

  settle_moves : Moves workers r.made s.words (set s.words (workers + f) word) r.core (moved r.core (core.Settle v.number word)) v (settled v word)
  settle_moves = let o = own workers s r id v at alive in let k = ranges_known workers s r id v at alive in let sh = r.shaped in let hs = sh.hands in let bs = sh.board in
      let first : (hand_at r.core v.number).first ≡ f = ap (λ (x : RangeState). x.first) hand_is in
      let low : f < length r.core.answers = subst (λ (xs : List ℕ). f < length xs) o.answers piece.below in
      let D : ℕ → CoreState = λ g. record r.core { hands = set r.core.hands v.number no_units; board = set r.core.board g word } in
      let d : CoreState = moved r.core (core.Settle v.number word) in
      let none : slice_index r.core.board f ≡ 0 =
      (in_hand r.core r.shaped r.whole v.number f k (ap (λ (x : RangeState). times_in f x) hand_is
      ∙ times_in_inside f (range_of f (f + 1)) (omega arith) (omega arith))).1 in
      let real : word ≢ 0 = (λ z. sh.answers f 0 low (sym (right ∙ ap (λ (xs : List ℕ). slice_index xs f) o.answers) ∙ z)) in
      record {
        shaped = settle_shaped r.core r.shaped r.whole v.number word;
        whole = settle_whole r.core r.shaped r.whole v.number word settles_now;
        answers = refl;
        shows = subst (λ (g : ℕ). Shows (set s.words (workers + f) word) workers (D g)) (sym first) (shows_board s.words workers r.core r.shows f word (set r.core.hands v.number no_units) low bs);
        hand = get_or-set_same r.core.hands v.number no_units no_units (omega arith);
        over = o.over;
        first = o.first;
        upto = o.upto;
        others = λ m ne. record { hand = get_or-set_other r.core.hands v.number m no_units no_units ne; over = refl; first = refl; upto = omega arith };
        unmade = λ m a b. get_or-set_other s.words (workers + f) m word 0 (λ e. absurd (omega arith));
        settled = λ u. subst (λ (g : ℕ). times u (v.settled ++ g ∷ []) + times_on u r.core.board
            ≡ times u v.settled + times_on u (set r.core.board (hand_at r.core v.number).first word))
            (sym (ap (λ (x : RangeState). x.first) piece.hand))
            (subst (λ (g : ℕ). times u (v.settled ++ f ∷ []) + times_on u r.core.board ≡ times u v.settled + times_on u (set r.core.board g word)) (sym first)
            (times_settle u f word v.settled r.core.board (omega arith) none real));
        steps = core.Settle v.number word ∷ [];
        path = λ log h. one_more (opened r.core.answers workers) log r.core (core.Settle v.number word) h (settles_none r.core v.number word settles_now);
        moves = refl;
        mine = steps_of_own (core.Settle v.number word) v.number refl;
        not_others = λ m n. steps_of_other (core.Settle v.number word) m (λ e. n (sym e));
        sees = sees_nothing (opened r.core.answers workers) r.core v _ refl;
      }

pub settle_allowed : (k : Size) (slots id : ℕ) (me : Sat) (f word : ℕ) → me.0.live ≡ true → HasPiece me.0 f → word ≡ slice_index me.0.answers f
    → Allows (Holds k) slots id me (k.workers + f) (λ _. word) (λ _. settles (step slots (k.workers + f) word 0 none) me word)
settle_allowed k slots id me f word alive piece right s (inl b) long at small = absurd (not_blank k.workers k.units s id me.0 b at alive)
settle_allowed k slots id me f word alive piece right s (inr r) long at small =
    let v : View = me.0 in let w : View = settled v word in
    let s' : Pools = record { words = set s.words (k.workers + f) word; homes = s.homes; views = set s.views id w } in
    let r' : Ruled k.workers s' = follows k.workers s r id v w at alive piece.going (same_place v _ _ _ _ _ _) (set s.words (k.workers + f) word) _ s.homes
    (settle_moves k.workers s r id v at alive f word piece right) in
    let p = found_at s.views id v v at in
    let here = set_here s.views id w p.0 in
    let few : length w.settled ≤ length r'.core.board = few_settled k.workers s' r' id w here in
    let o' = r'.seats id w here alive in let sh = r'.shaped in let long' : length r'.core.board ≡ length v.answers = sh.board ∙ ap length (sym o'.answers) in (
      w,
      keeps,
      tt,
      inr r',
      ((refl, refl), subst (λ (n : ℕ). length w.settled ≤ n) long' few),
    )

-- the same, where the code names the word and the numbers
pub look_home_at : (k : Size) (slots id : ℕ) (me : Sat) (i : ℕ) → me.0.number ≡ i → me.0.live ≡ true → me.0.over ≡ false
    → Allows (Holds k) slots id me i (λ n. n) (looks_home (step slots i 0 0 none) me)
look_home_at k slots id me i e alive going = subst (λ (i : ℕ). Allows (Holds k) slots id me i (λ n. n) (looks_home (step slots i 0 0 none) me)) e (look_home_allowed k slots id me alive going)

pub claim_at : (k : Size) (slots id : ℕ) (me : Sat) (i old new : ℕ) → me.0.number ≡ i → packed me.0.bound ≡ old
    → packed (rest_of me.0.bound) ≡ new → me.0.live ≡ true → IsFree me.0 → 0 < range_len me.0.bound
    → Allows (Holds k) slots id me i (λ n. either (eqb n old) new n) (claims (step slots i old new none) me)
claim_at k slots id me i old new e f g alive free room =
    subst (λ (t : ℕ × ℕ × ℕ). Allows (Holds k) slots id me t.0 (λ n. either (eqb n t.1) t.2 n)
    (claims (step slots t.0 t.1 t.2 none) me)) (λ j. (e j, f j, g j)) (claim_allowed k slots id me alive free room)

pub end_at : (k : Size) (slots id : ℕ) (me : Sat) (i : ℕ) → me.0.number ≡ i → me.0.live ≡ true → IsFree me.0 → range_len me.0.bound ≡ 0
    → Allows (Holds k) slots id me i (λ n. n) (ends (step slots i 0 0 none) me)
end_at k slots id me i e alive free bare = subst (λ (i : ℕ). Allows (Holds k) slots id me i (λ n. n) (ends (step slots i 0 0 none) me)) e (end_allowed k slots id me alive free bare)

pub settle_at : (k : Size) (slots id : ℕ) (me : Sat) (workers f word : ℕ) → k.workers ≡ workers → me.0.live ≡ true → HasPiece me.0 f → word ≡ slice_index me.0.answers f
    → Allows (Holds k) slots id me (workers + f) (λ _. word) (λ _. settles (step slots (workers + f) word 0 none) me word)
settle_at k slots id me workers f word e alive piece right =
    subst (λ (n : ℕ). Allows (Holds k) slots id me (n + f) (λ _. word) (λ _. settles (step slots (n + f) word 0 none) me word)) e (settle_allowed k slots id me f word alive piece right)
