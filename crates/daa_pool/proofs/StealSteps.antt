-- The steps of a seat on another's range, and what it keeps of a stolen half.
use Rattle.std.proofs.Common.{◌≡◌, ◌≢◌, ℕ, ◌-◌, ◌^◌, ◌<◌, ◌≤◌, inl, inr, true, false, eqb}
use Rattle.std.proofs.Common.{List, [], ◌∷◌, length, get_or, set, sym, refl, ap, ◌∙◌, subst}
use Rattle.std.proofs.Common.{arith, get_or-set_same, get_or-set_other, eq-eqb, ne_eqb}
use Rattle.std.proofs.lemmas.List.{set-get_or}
use mathlib.Core.Option.{none, some}
use mathlib.Core.Logic.{dite}
use native.Mathlib.Decide.{ℕ_discrete}
use prog.Atomic.{either}
use lib.ListN.{get_elem?}
use Rattle.atomic_table.specs.Table.{step, keeps, stepped, Allows}
use Rattle.daa_range.specs.Range.{RangeState, range_len, first_unit_of, rest_of, lower_of, upper_of, middle_of, times_in}
use Rattle.daa_range.specs.Word.{packed, unpacked}
use Rattle.daa_range.proofs.Words.{unpacked-packed}
use Rattle.daa_schedule.specs.CoreState.{no_units, range_at, hand_at, opened}
use Rattle.daa_schedule.specs.Step.{moved}
use Rattle.daa_schedule.proofs.Histories.{one_more, steps_of_own, steps_of_other, steals_none, keeps_none}
use Rattle.daa_schedule.specs.declared.step.Step.TheVariants as core
use Rattle.daa_schedule.proofs.Faults.{Steals, Keeps}
use Rattle.daa_schedule.proofs.Steps.{steal_whole, steal_shaped, keep_whole, keep_shaped, in_range}
use Rattle.daa_range.proofs.Ranges.{times_in_inside}
use Rattle.daa_pool.specs.declared.view.View.{View}
use Rattle.daa_pool.specs.declared.pool.Size.{Size}
use Rattle.daa_pool.specs.Inside.View.{looked, stolen, kept}
use Rattle.daa_pool.specs.Inside.Rule.{Pools, word_at, Ruled, Holds}
use Rattle.daa_pool.specs.Inside.Steps as play
use Rattle.daa_pool.specs.Seat.{IsFree}
use Rattle.daa_pool.proofs.Views.{not_blank}
use Rattle.daa_pool.proofs.History.{sees_nothing}
use Rattle.daa_pool.proofs.StepDuties.{Moves, follows}
use Rattle.daa_pool.proofs.Words.{packed_in_order, word_is, shows_range}
use Rattle.daa_pool.proofs.OwnSteps.{same_place, own, known, ranges_known, stays}

-- the other range is seen, and nothing changes
module _ (workers : ℕ) (s : Pools) (r : Ruled workers s) (id : ℕ) (v : View) (at : get_elem? s.views id ≡ some v) (alive : v.live ≡ true) where
  pub looks_away_moves : (other : ℕ) (ws : List ℕ) → other < workers → ws ≡ s.words → Moves workers r.made s.words ws r.core r.core v (looked v other (word_at s.words other))
  looks_away_moves other ws there e = let o = own workers s r id v at alive in stays workers s r id v at alive ws
      (looked v other (word_at s.words other)) other there refl e refl refl refl refl o.first o.upto

pub look_away_at : (k : Size) (slots id : ℕ) (me : play.Sat) (other : ℕ) → me.0.live ≡ true → me.0.over ≡ false → other < k.workers
    → Allows (Holds k) slots id me other (λ n. n) (play.looks_away (step slots other 0 0 none) me)
look_away_at k slots id me other alive going there s (inl b) long at small = absurd (not_blank k.workers k.units s id me.0 b at alive)
look_away_at k slots id me other alive going there s (inr r) long at small = let v : View = me.0 in let x : ℕ = word_at s.words other in let sh = r.shows in (
  looked v other x,
  keeps,
  tt,
  inr (follows k.workers s r id v (looked v other x) at alive going (same_place v _ _ _ _ _ _) (set s.words other x) r.core s.homes
      (looks_away_moves k.workers s r id v at alive other (set s.words other x) there (set-get_or s.words other 0))),
  ((refl, refl), sh.in_order other there),
)

-- the upper half of the other range goes to the hand
module _ (workers : ℕ) (s : Pools) (r : Ruled workers s) (id : ℕ) (v : View) (at : get_elem? s.views id ≡ some v) (alive : v.live ≡ true)
    (free : IsFree v) (bare : range_len v.bound ≡ 0) (other : ℕ) (there : other < workers) (apart : other ≢ v.number)
    (x : RangeState) (two : 2 ≤ range_len x) (small : x.upto < 2 ^ 32) (hit : word_at s.words other ≡ packed x) where
  range_is : range_at r.core other ≡ x
  range_is = let sh = r.shows in sh.ranges other there ∙ word_is (word_at s.words other) x hit (omega arith) small

  steals_now : Steals r.core v.number other
  steals_now = let o = own workers s r id v at alive in let sh = r.shows in let c = sh.crew in let f = o.first in let u = o.upto in record {
    known = ranges_known workers s r id v at alive;
    other_known = omega arith;
    going = o.over ∙ free.going;
    apart = λ e. apart (sym e);
    free = ap range_len (o.hand ∙ free.hand);
    none = omega arith;
    two = subst (λ (y : RangeState). 2 ≤ range_len y) (sym range_is) two;
  }

  steal_moves : Moves workers r.made s.words (set s.words other (packed (lower_of x))) r.core (moved r.core (core.Steal v.number other)) v (stolen v other x)
  steal_moves = let o = own workers s r id v at alive in let k = ranges_known workers s r id v at alive in let sh = r.shaped in let hs = sh.hands in let ws = r.shows in let crew = ws.crew in
      let R : RangeState = range_at r.core other in
      let low : x.first ≤ middle_of x = omega arith in let high : middle_of x < 2 ^ 32 = omega arith in
      let mine = get_or-set_other r.core.ranges other v.number (lower_of R) no_units (λ e. apart (sym e)) in
      let its = get_or-set_same r.core.ranges other (lower_of R) no_units (omega arith) in
      record {
        shaped = steal_shaped r.core r.shaped r.whole v.number other;
        whole = steal_whole r.core r.shaped r.whole v.number other steals_now;
        answers = refl;
        shows = shows_range s.words workers r.core r.shows other (packed (lower_of x)) (lower_of R) _ there (packed_in_order (lower_of x) low high)
            (ap lower_of range_is ∙ sym (unpacked-packed (lower_of x) low high));
        hand = get_or-set_same r.core.hands v.number _ no_units (omega arith) ∙ ap upper_of range_is;
        over = o.over;
        first = ap (λ (y : RangeState). y.first) mine ∙ o.first;
        upto = let e = ap (λ (y : RangeState). y.upto) mine in let u = o.upto in omega arith;
        others = λ m ne. dite (ℕ_discrete m other)
            (λ e. record {
              hand = get_or-set_other r.core.hands v.number m _ no_units ne;
              over = refl;
              first = ap (λ (n : ℕ). (get_or (set r.core.ranges other (lower_of R)) n no_units).first) e ∙ (ap (λ (y : RangeState). y.first) its ∙ ap (λ (n : ℕ). (range_at r.core n).first) (sym e));
              upto = subst (λ (n : ℕ). (get_or (set r.core.ranges other (lower_of R)) n no_units).upto ≤ (range_at r.core n).upto) (sym e)
                  (let a = ap (λ (y : RangeState). y.upto) its in let le : middle_of R ≤ R.upto = omega arith in omega arith);
            })
            (λ n. let a = get_or-set_other r.core.ranges other m (lower_of R) no_units n in
            record {
              hand = get_or-set_other r.core.hands v.number m _ no_units ne;
              over = refl;
              first =
                  ap (λ (y : RangeState). y.first) a;
              upto = let e = ap (λ (y : RangeState). y.upto) a in omega arith;
            });
        unmade = λ m a b. get_or-set_other s.words other m _ 0 (λ e. let u = r.unmade m a b in let z = u.word in
            let h : word_at s.words m ≡ packed x = ap (λ (n : ℕ). word_at s.words n) e ∙ hit in absurd (omega arith));
        settled = λ u. refl;
        steps = core.Steal v.number other ∷ [];
        path = λ log h. one_more (opened r.core.answers workers) log r.core (core.Steal v.number other) h (steals_none r.core v.number other steals_now);
        moves = refl;
        mine = steps_of_own (core.Steal v.number other) v.number refl;
        not_others = λ m n. steps_of_other (core.Steal v.number other) m (λ e. n (sym e));
        sees = sees_nothing (opened r.core.answers workers) r.core v _ refl;
      }

  -- the units that are stolen have answers
  steal_below : x.upto ≤ length v.answers
  steal_below = let o = own workers s r id v at alive in let sh = r.shows in let crew = sh.crew in
      let last : x.upto - 1 < length r.core.answers = in_range r.core r.shaped r.whole other (x.upto - 1) (omega arith)
      (ap (λ (y : RangeState). times_in (x.upto - 1) y) range_is ∙ times_in_inside (x.upto - 1) x (omega arith) (omega arith)) in
      subst (λ (xs : List ℕ). x.upto ≤ length xs) (sym o.answers) (omega arith)

pub steal_at : (k : Size) (slots id : ℕ) (me : play.Sat) (other old new : ℕ) (x : RangeState) → packed x ≡ old → packed (lower_of x) ≡ new → me.0.live ≡ true → IsFree me.0 → range_len me.0.bound ≡ 0
    → other < k.workers → other ≢ me.0.number → 2 ≤ range_len x → x.upto < 2 ^ 32
    → Allows (Holds k) slots id me other (λ n. either (eqb n old) new n) (play.steals (step slots other old new none) me)
steal_at k slots id me other old new x eo en alive free bare there apart two small s (inl b) long at tiny = absurd (not_blank k.workers k.units s id me.0 b at alive)
steal_at k slots id me other old new x eo en alive free bare there apart two small s (inr r) long at tiny =
    let v : View = me.0 in let y : ℕ = word_at s.words other in let sh = r.shows in
    dite (ℕ_discrete y old)
    (λ hit. (
      stolen v other (unpacked y),
      keeps,
      tt,
      (let hit' : y ≡ packed x = hit ∙ sym eo in let is : unpacked y ≡ x = word_is y x hit' (omega arith) small in
          subst (λ b. Holds k (stepped s other (either b new y) id me.1 (stolen v other (unpacked y)) keeps)) (sym (eq-eqb y old hit))
          (inr (subst (λ (t : ℕ × RangeState). Ruled k.workers (record { words = set s.words other t.0; homes = s.homes; views = set s.views id (stolen v other t.1) })) (λ i. (en i, sym is i))
          (follows k.workers s r id v (stolen v other x) at alive free.going (same_place v _ _ _ _ _ _) (set s.words other (packed (lower_of x))) _ s.homes
          (steal_moves k.workers s r id v at alive free bare other there apart x two small hit'))))),
      (
        (λ _. (
          (refl, refl),
          (let hit' : y ≡ packed x = hit ∙ sym eo in let is : unpacked y ≡ x = word_is y x hit' (omega arith) small in
              subst (λ (z : RangeState). z.upto ≤ length v.answers) (sym is) (steal_below k.workers s r id v at alive free bare other there apart x two small hit')),
        )),
        λ ne. absurd (ne hit),
      ),
    ))
    (λ miss. (
      looked v other y,
      keeps,
      tt,
      subst (λ b. Holds k (stepped s other (either b new y) id me.1 (looked v other y) keeps)) (sym (ne_eqb y old miss))
          (inr (follows k.workers s r id v (looked v other y) at alive free.going (same_place v _ _ _ _ _ _) (set s.words other y) r.core s.homes
          (looks_away_moves k.workers s r id v at alive other (set s.words other y) there (set-get_or s.words other 0)))),
      ((λ e. absurd (miss e)), λ _. ((refl, refl), sh.in_order other there)),
    ))

-- all but the first unit of the hand becomes the own range
module _ (workers : ℕ) (s : Pools) (r : Ruled workers s) (id : ℕ) (v : View) (at : get_elem? s.views id ≡ some v) (alive : v.live ≡ true)
    (going : v.over ≡ false) (two : 2 ≤ range_len v.hand) (small : v.hand.upto < 2 ^ 32) where
  keeps_now : Keeps r.core v.number
  keeps_now = let o = own workers s r id v at alive in record {
    known = ranges_known workers s r id v at alive;
    going = o.over ∙ going;
    two = subst (λ (y : RangeState). 2 ≤ range_len y) (sym o.hand) two;
  }

  keep_moves : Moves workers r.made s.words (set s.words v.number (packed (rest_of v.hand))) r.core (moved r.core (core.Keep v.number)) v (kept v)
  keep_moves = let o = own workers s r id v at alive in let k = ranges_known workers s r id v at alive in let sh = r.shaped in let hs = sh.hands in
      let H : RangeState = hand_at r.core v.number in let is : H ≡ v.hand = o.hand in
      let its = get_or-set_same r.core.ranges v.number (rest_of H) no_units k ∙ ap rest_of is in
      record {
        shaped = keep_shaped r.core r.shaped r.whole v.number;
        whole = keep_whole r.core r.shaped r.whole v.number keeps_now;
        answers = refl;
        shows = shows_range s.words workers r.core r.shows v.number (packed (rest_of v.hand)) (rest_of H) _ (known workers s r id v at alive)
            (packed_in_order (rest_of v.hand) (omega arith) small)
            (ap rest_of is ∙ sym (unpacked-packed (rest_of v.hand) (omega arith) small));
        hand = get_or-set_same r.core.hands v.number _ no_units (omega arith) ∙ ap first_unit_of is;
        over = o.over;
        first = ap (λ (x : RangeState). x.first) its;
        upto = let e = ap (λ (x : RangeState). x.upto) its in omega arith;
        others = λ m ne. let a = get_or-set_other r.core.ranges v.number m (rest_of H) no_units ne in
            record {
              hand = get_or-set_other r.core.hands v.number m _ no_units ne;
              over = refl;
              first =
                  ap (λ (x : RangeState). x.first) a;
              upto = let e = ap (λ (x : RangeState). x.upto) a in omega arith;
            };
        unmade = λ m a b. get_or-set_other s.words v.number m _ 0 (λ e. let p = o.number v.number (inl refl) in let q = p.0 in absurd (omega arith));
        settled = λ u. refl;
        steps = core.Keep v.number ∷ [];
        path = λ log h. one_more (opened r.core.answers workers) log r.core (core.Keep v.number) h (keeps_none r.core v.number keeps_now);
        moves = refl;
        mine = steps_of_own (core.Keep v.number) v.number refl;
        not_others = λ m n. steps_of_other (core.Keep v.number) m (λ e. n (sym e));
        sees = sees_nothing (opened r.core.answers workers) r.core v _ refl;
      }

pub keep_at : (k : Size) (slots id : ℕ) (me : play.Sat) (i new : ℕ) → me.0.number ≡ i → packed (rest_of me.0.hand) ≡ new
    → me.0.live ≡ true → me.0.over ≡ false → 2 ≤ range_len me.0.hand → me.0.hand.upto < 2 ^ 32
    → Allows (Holds k) slots id me i (λ _. new) (λ _. play.keeps (step slots i new 0 none) me new)
keep_at k slots id me i new e en alive going two small = subst (λ (t : ℕ × ℕ). Allows (Holds k) slots id me t.0 (λ _. t.1) (λ _. play.keeps (step slots t.0 t.1 0 none) me t.1)) (λ j. (e j, en j)) it
  where
    it : Allows (Holds k) slots id me me.0.number (λ _. packed (rest_of me.0.hand)) (λ _. play.keeps (step slots me.0.number (packed (rest_of me.0.hand)) 0 none) me (packed (rest_of me.0.hand)))
    it s (inl b) long at tiny = absurd (not_blank k.workers k.units s id me.0 b at alive)
    it s (inr r) long at tiny = let v : View = me.0 in (
      kept v,
      keeps,
      tt,
      inr (follows k.workers s r id v (kept v) at alive going (same_place v _ _ _ _ _ _) (set s.words v.number
          (packed (rest_of v.hand))) _ s.homes (keep_moves k.workers s r id v at alive going two small)),
      (refl, refl),
    )
