-- A seat takes in another's view, and once it has all numbers, it reads the answers.
use Rattle.std.proofs.Common.{◌≡◌, ◌≢◌, ℕ, ◌+◌, ◌-◌, ◌<◌, ◌≤◌, ◌⊎◌, inl, inr, ⊎_elim, Bool, true, false, eqb, cond}
use Rattle.std.proofs.Common.{List, [], ◌∷◌, length, set, slice_index, sym, refl, ap, ◌∙◌, subst, arith, eq-eqb, ne_eqb}
use Rattle.std.proofs.lemmas.Bool.{true≢false}
use Rattle.std.proofs.lemmas.List.{set-get_or, get_or_past}
use mathlib.Core.Option.{Option, none, some, some-injective}
use mathlib.Core.Logic.{dite}
use native.Mathlib.Decide.{ℕ_discrete, dec_lt}
use Rattle.std.proofs.lemmas.Bool.Decides.{nat_tests}
use lib.ListN.{get_elem?}
use Rattle.std.specs.List.{Contains}
use Rattle.std.proofs.lemmas.List.Sums.{sum_by-append}
use Rattle.std.proofs.lemmas.List.Elements.{Contains-append_cases, Contains-append_left, Contains-append_right, Contains-push}
use Rattle.atomic_table.specs.Table.{Joins, Allows, step, keeps}
use Rattle.atomic_table.proofs.Lists.{at_set, set_here, set_else, set_again}
use Rattle.daa_schedule.specs.CoreState.{no_units, hand_at, has_ended, opened, times_on, once_below}
use Rattle.daa_schedule.specs.Answers.{AreAnswers}
use Rattle.daa_schedule.specs.Runs.{AllEnded, IsHistory}
use Rattle.daa_schedule.proofs.Runs.{all_answered}
use Rattle.daa_pool.specs.declared.view.View.{View}
use Rattle.daa_pool.specs.declared.view.Part.{Part}
use Rattle.daa_pool.specs.declared.pool.Size.{Size}
use Rattle.daa_pool.specs.View.{part_of, times}
use Rattle.daa_pool.specs.Inside.View.{HasPart, HasNumber, spent, gathered}
use Rattle.daa_pool.specs.Inside.Rule.{Pools, word_at, IsSeated, IsHeld, Ruled, Holds}
use Rattle.daa_pool.specs.Inside.Steps.{Sat, reads}
use Rattle.daa_pool.specs.History.{IsPartOf, IsOneHistory}
use Rattle.daa_pool.specs.Seat.{IsOver}
use Rattle.daa_pool.proofs.Lists.{Contains-cons_cases, found_at, total_set, sum_alone}
use Rattle.daa_pool.proofs.Views.{not_blank}
use Rattle.daa_pool.proofs.StepDuties.{seated_anew}

-- the parts and the numbers of a seat that took in another
pub joined_left : (v w : View) (part : Part) → Contains v.joined part → Contains (gathered v w).joined part
joined_left v w part h = Contains-append_left v.joined (part_of w ∷ w.joined) part h

pub joined_own : (v w : View) → Contains (gathered v w).joined (part_of w)
joined_own v w = Contains-append_right v.joined (part_of w ∷ w.joined) (part_of w) (Contains-append_left (part_of w ∷ []) w.joined (part_of w) (Contains-push [] (part_of w)))

joined_right : (v w : View) (part : Part) → Contains w.joined part → Contains (gathered v w).joined part
joined_right v w part h = Contains-append_right v.joined (part_of w ∷ w.joined) part (Contains-append_right (part_of w ∷ []) w.joined part h)

joined_cases : (v w : View) (part : Part) → Contains (gathered v w).joined part → Contains v.joined part ⊎ ((part_of w ≡ part) ⊎ Contains w.joined part)
joined_cases v w part h = ⊎_elim (λ t. inl t) (λ t. inr (Contains-cons_cases (part_of w) part w.joined t)) (Contains-append_cases v.joined (part_of w ∷ w.joined) part h)

pub has_left : (v w : View) (n : ℕ) → HasNumber v n → HasNumber (gathered v w) n
has_left v w n (inl e) = inl e
has_left v w n (inr h) = inr (h.0, joined_left v w h.0 h.1, h.2)

pub has_right : (v w : View) (n : ℕ) → HasNumber w n → HasNumber (gathered v w) n
has_right v w n (inl e) = inr (part_of w, joined_own v w, e)
has_right v w n (inr h) = inr (h.0, joined_right v w h.0 h.1, h.2)

has_cases : (v w : View) (n : ℕ) → HasNumber (gathered v w) n → HasNumber v n ⊎ HasNumber w n
has_cases v w n (inl e) = inl (inl e)
has_cases v w n (inr h) = ⊎_elim
    (λ t. inl (inr (h.0, t, h.2)))
    (λ t. ⊎_elim (λ e. inr (inl (ap (λ (p : Part). p.number) e ∙ h.2))) (λ q. inr (inr (h.0, q, h.2))) t)
    (joined_cases v w h.0 h.1)

-- the count of seats made stands in v, or else in w
carry_cases : (b c : Bool) (m n : ℕ) → cond b true c ≡ true → ((b ≡ true) × (cond b m n ≡ m)) ⊎ ((c ≡ true) × (cond b m n ≡ n))
carry_cases true c m n e = inl (refl, refl)
carry_cases false c m n e = inr (e, refl)

carry_left : (b c : Bool) → b ≡ true → cond b true c ≡ true
carry_left true c e = refl
carry_left false c e = cc

carry_right : (b c : Bool) → c ≡ true → cond b true c ≡ true
carry_right true c e = refl
carry_right false c e = e

module _ (workers : ℕ) (s : Pools) (r : Ruled workers s) (id other : ℕ) (v w : View) (at : get_elem? s.views id ≡ some v) (at' : get_elem? s.views other ≡ some w) (apart : other ≢ id)
    (alive : v.live ≡ true) (alive' : w.live ≡ true) (over : IsOver w) where
  abbrev g : View
  g = gathered v w

  abbrev vs : List View
  vs = set (set s.views id g) other spent

  own : IsSeated r.core r.log workers r.made r.carrier r.holder id v
  own = r.seats id v at alive

  its : IsSeated r.core r.log workers r.made r.carrier r.holder other w
  its = r.seats other w at' alive'

  -- what the other seat had is the first one's
  moved : ℕ → ℕ
  moved j = cond (eqb j other) id j

  moved-other : moved other ≡ id
  unfolding moved
  moved-other = ap (λ (b : Bool). cond b id other) (eq-eqb other other refl)

  moved-else : (j : ℕ) → j ≢ other → moved j ≡ j
  unfolding moved
  moved-else j n = ap (λ (b : Bool). cond b id j) (ne_eqb j other n)

  moved-id : moved id ≡ id
  moved-id = moved-else id (λ e. apart (sym e))

  abbrev holder' : ℕ → ℕ
  holder' n = moved (r.holder n)

  here : get_elem? vs id ≡ some g
  here = set_else (set s.views id g) other id spent (λ e. apart (sym e)) ∙ set_here s.views id g (found_at s.views id v v at).0

  else_at : (j : ℕ) → j ≢ id → j ≢ other → get_elem? vs j ≡ get_elem? s.views j
  else_at j n n' = set_else (set s.views id g) other j spent n' ∙ set_else s.views id j g n

  both : IsSeated r.core r.log workers r.made (moved r.carrier) holder' id g
  both = let o = own in let i = its in record {
    number = λ n h. ⊎_elim
        (λ t. let p = o.number n t in (p.0, ap moved p.1 ∙ moved-id))
        (λ t. let p = i.number n t in (p.0, ap moved p.1 ∙ moved-other))
        (has_cases v w n h);
    carries = λ c. ⊎_elim
        (λ t. let p = o.carries t.0 in (sym moved-id ∙ ap moved p.0, t.1 ∙ p.1))
        (λ t. let p = i.carries t.0 in (sym moved-other ∙ ap moved p.0, t.1 ∙ p.1))
        (carry_cases v.carries w.carries v.made w.made c);
    crew = o.crew;
    answers = o.answers;
    hand = o.hand;
    over = o.over;
    part = o.part;
    joined = λ part h. ⊎_elim
        (λ t. o.joined part t)
        (λ t. ⊎_elim
        (λ e. subst (λ (p : Part). (hand_at r.core p.number ≡ no_units) × (has_ended r.core p.number ≡ true) × IsPartOf (opened r.core.answers workers) r.log p) e
        (i.hand ∙ over.hand, i.over ∙ over.over, i.part))
        (λ q. i.joined part q)
        t)
        (joined_cases v w part h);
    first = o.first;
    upto = o.upto;
  }

  third : (j : ℕ) (x : View) → j ≢ other → IsSeated r.core r.log workers r.made r.carrier r.holder j x → IsSeated r.core r.log workers r.made (moved r.carrier) holder' j x
  third j x n o = seated_anew r.core r.log workers r.made r.made r.carrier (moved r.carrier) r.holder holder' j x x.carries
      (λ k h. let p = o.number k h in (p.0, ap moved p.1 ∙ moved-else j n))
      (λ c. let p = o.carries c in (sym (moved-else j n) ∙ ap moved p.0, p.1))
      o

  same_view : (i : ℕ) (x y : View) (j : ℕ) → get_elem? s.views i ≡ some x → i ≡ j → get_elem? s.views j ≡ some y → x ≡ y
  same_view i x y j a e b = some-injective x y (sym a ∙ (ap (λ (k : ℕ). get_elem? s.views k) e ∙ b))

  held_in : (i n : ℕ) → IsHeld s.views i n → IsHeld vs (moved i) n
  held_in i n h = dite (ℕ_discrete i other)
      (λ e. subst (λ (k : ℕ). IsHeld vs k n) (sym (ap moved e ∙ moved-other)) (g, here, alive, has_right v w n (subst (λ (y : View). HasNumber y n) (same_view i h.0 w other h.1 e at') h.3)))
      (λ ne. subst (λ (k : ℕ). IsHeld vs k n) (sym (moved-else i ne)) (dite (ℕ_discrete i id)
      (λ e. subst (λ (k : ℕ). IsHeld vs k n) (sym e) (g, here, alive, has_left v w n (subst (λ (y : View). HasNumber y n) (same_view i h.0 v id h.1 e at) h.3)))
      (λ ne'. (h.0, else_at i ne' ne ∙ h.1, h.2, h.3))))

  abbrev Carries : ℕ → Type 0
  Carries i = (x : View) × (get_elem? vs i ≡ some x) × (x.live ≡ true) × (x.carries ≡ true)

  carried_in : (i : ℕ) → ((x : View) × (get_elem? s.views i ≡ some x) × (x.live ≡ true) × (x.carries ≡ true)) → Carries (moved i)
  carried_in i h = dite (ℕ_discrete i other)
      (λ e. subst Carries (sym (ap moved e ∙ moved-other)) (g, here, alive, carry_right v.carries w.carries (ap (λ (y : View). y.carries) (sym (same_view i h.0 w other h.1 e at')) ∙ h.3)))
      (λ ne. subst Carries (sym (moved-else i ne)) (dite (ℕ_discrete i id)
      (λ e. subst Carries (sym e) (g, here, alive, carry_left v.carries w.carries (ap (λ (y : View). y.carries) (sym (same_view i h.0 v id h.1 e at)) ∙ h.3)))
      (λ ne'. (h.0, else_at i ne' ne ∙ h.1, h.2, h.3))))

  pub joins_ruled : (homes : List (Option (Unit {0}))) → Ruled workers (record { words = s.words; homes = homes; views = vs })
  joins_ruled homes = record {
    core = r.core;
    made = r.made;
    carrier = moved r.carrier;
    holder = holder';
    shaped = r.shaped;
    whole = r.whole;
    shows = r.shows;
    log = r.log;
    history = r.history;
    fits = r.fits;
    held = λ n h. held_in (r.holder n) n (r.held n h);
    carried = carried_in r.carrier r.carried;
    unmade = r.unmade;
    seats = λ j x e l. ⊎_elim
        (λ t. absurd (true≢false (sym l ∙ ap (λ (y : View). y.live) (sym t.1))))
        (λ t. ⊎_elim
        (λ q. subst (λ (p : ℕ × View). IsSeated r.core r.log workers r.made (moved r.carrier) holder' p.0 p.1) (λ i. (sym q.0 i, q.1 i)) both)
        (λ q. third j x t.0 (r.seats j x q.1 l))
        (at_set s.views id j g x t.1))
        (at_set (set s.views id g) other j spent x e);
    others = λ j x e l. ⊎_elim
        (λ t. sym t.1)
        (λ t. ⊎_elim
        (λ q. absurd (true≢false (sym alive ∙ (ap (λ (y : View). y.live) q.1 ∙ l))))
        (λ q. r.others j x q.1 l)
        (at_set s.views id j g x t.1))
        (at_set (set s.views id g) other j spent x e);
    settled = λ u. let a = r.settled u in
        let b = total_set (λ (x : View). times u x.settled) s.views id v g at in
        let d = total_set (λ (x : View). times u x.settled) (set s.views id g) other w spent (set_else s.views id other g apart ∙ at') in
        let e = sum_by-append (λ (x : ℕ). cond (eqb x u) 1 0) v.settled w.settled in omega arith;
  }

pub joins : (k : Size) (id other : ℕ) (v w : View) → v.live ≡ true → w.live ≡ true → IsOver w → Joins (Holds k) id v other w (gathered v w) spent
joins k id other v w alive alive' over s (inl b) at apart at' = absurd (not_blank k.workers k.units s id v b at alive)
joins k id other v w alive alive' over s (inr r) at apart at' = inr (joins_ruled k.workers s r id other v w at
    (sym (set_else s.views id other (gathered v w) apart) ∙ at') apart alive alive' over s.homes)

-- where one view has all numbers, every other is spent
alone : (workers : ℕ) (s : Pools) (r : Ruled workers s) (id : ℕ) (v : View) → get_elem? s.views id ≡ some v → v.live ≡ true → ((n : ℕ) → n < workers → HasNumber v n)
    → (j : ℕ) (x : View) → get_elem? s.views j ≡ some x → j ≢ id → x ≡ spent
alone workers s r id v at alive all j x e ne = go x.live refl
  where
    go : (b : Bool) → x.live ≡ b → x ≡ spent
    go false l = r.others j x e l
    go true l = let o = r.seats j x e l in let p = o.number x.number (inl refl) in let low = p.0 in let fits = r.fits in
        let i = r.seats id v at alive in let q = i.number x.number (all x.number (omega arith)) in absurd (ne (sym p.1 ∙ q.1))

on_all : (u : ℕ) (answers : List ℕ) → AreAnswers answers → times_on u answers ≡ once_below u (length answers)
on_all u answers real = dite (dec_lt u (length answers)) (λ h. some (real u 0 h) h) (λ n. none n)
  where
    some : slice_index answers u ≢ 0 → u < length answers → times_on u answers ≡ once_below u (length answers)
    some n h = grind (arith, nat_tests)

    past : (length answers ≤ u) → slice_index answers u ≡ 0
    past h = get_or_past answers u 0 h

    none : ¬ (u < length answers) → times_on u answers ≡ once_below u (length answers)
    none n = let h : length answers ≤ u = omega arith in let z = past h in grind (arith, nat_tests)

-- a seat that is over and has all numbers reads the answers
pub read_at : (k : Size) (slots id : ℕ) (me : Sat) (i u : ℕ) → i ≡ k.workers + u → me.0.live ≡ true → IsOver me.0 → ((n : ℕ) → n < k.workers → HasNumber me.0 n) → u < length me.0.answers
    → Allows (Holds k) slots id me i (λ n. n) (reads (step slots i 0 0 none) me)
read_at k slots id me i u e alive over all low s (inl b) size at tiny = absurd (not_blank k.workers k.units s id me.0 b at alive)
read_at k slots id me i u e alive over all low s (inr r) size at tiny = let v : View = me.0 in (
  v,
  keeps,
  tt,
  inr (subst (λ (t : List ℕ × List View). Ruled k.workers (record { words = t.0; homes = s.homes; views = t.1 })) (λ j. (sym (set-get_or s.words i 0) j, sym (set_again s.views id v at) j)) r),
  ((refl, refl), found, once, history),
)
  where
    o : IsSeated r.core r.log k.workers r.made r.carrier r.holder id me.0
    o = r.seats id me.0 at alive

    ended : (n : ℕ) → HasNumber me.0 n → has_ended r.core n ≡ true
    ended n (inl e) = ap (λ (m : ℕ). has_ended r.core m) (sym e) ∙ (o.over ∙ over.over)
    ended n (inr h) = ap (λ (m : ℕ). has_ended r.core m) (sym h.2) ∙ (o.joined h.0 h.1).1

    all_over : AllEnded r.core
    all_over n h = ended n (all n (let sh = r.shows in let c = sh.crew in omega arith))

    found : word_at s.words i ≡ slice_index me.0.answers (i - me.0.workers)
    found = let sh = r.shows in let c = o.crew in
        let index : i - me.0.workers ≡ u = omega arith in
        let low' : u < length r.core.answers = subst (λ (xs : List ℕ). u < length xs) o.answers low in
        (ap (λ (n : ℕ). word_at s.words n) e ∙ sym (sh.board u low'))
        ∙ (ap (λ (xs : List ℕ). slice_index xs u) (all_answered r.core (r.shaped, r.whole) all_over ∙ sym o.answers) ∙ ap (λ (n : ℕ). slice_index me.0.answers n) (sym index))

    once : (u : ℕ) → times u me.0.settled ≡ once_below u (length me.0.answers)
    once u = let t = sum_alone (λ (x : View). times u x.settled) s.views id me.0 at (λ j x e' n. ap (λ (y : View). times u y.settled) (alone k.workers s r id me.0 at alive all j x e' n)) in
        let sh = r.shaped in
        (sym t ∙ r.settled u) ∙ (ap (λ (xs : List ℕ). times_on u xs) (all_answered r.core (r.shaped, r.whole) all_over)
        ∙ (on_all u r.core.answers sh.answers ∙ ap (λ (xs : List ℕ). once_below u (length xs)) (sym o.answers)))

    one_log : (part : Part) → HasPart me.0 part → IsPartOf (opened r.core.answers k.workers) r.log part
    one_log part (inl e) = subst (λ (p : Part). IsPartOf (opened r.core.answers k.workers) r.log p) e o.part
    one_log part (inr h) = (o.joined part h).2

    history : IsOneHistory me.0.answers me.0.workers (HasPart me.0)
    history = record {
      log = r.log;
      core = r.core;
      history = subst (λ (t : List ℕ × ℕ). IsHistory (opened t.0 t.1) r.log r.core) (λ j. (sym o.answers j, sym o.crew j)) r.history;
      ended = all_over;
      parts = λ part h. subst (λ (t : List ℕ × ℕ). IsPartOf (opened t.0 t.1) r.log part) (λ j. (sym o.answers j, sym o.crew j)) (one_log part h);
    }
