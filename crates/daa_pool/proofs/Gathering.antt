-- The seats of a pool, joined to one, which then reads the answers.
use Rattle.std.proofs.Common.{◌≡◌, ℕ, ◌+◌, ◌<◌, ◌≤◌, ◌⊎◌, inl, inr, ⊎_elim, eqb, cond, List, []}
use Rattle.std.proofs.Common.{◌∷◌, ◌++◌, length, set, slice_index, Some, sym, refl, ap, ◌∙◌, subst}
use Rattle.std.proofs.Common.{arith, length-set, get_or-set_same, get_or-set_other, below_more}
use Rattle.std.specs.List.{All, Contains, sum_by}
use Rattle.std.proofs.lemmas.List.{ext_get_or}
use Rattle.std.proofs.lemmas.List.Sums.{sum_by_push, sum_by-append}
use Rattle.std.proofs.lemmas.List.Elements.{All-pop, All-contains, Contains-push, Contains-push_cases}
use Rattle.daa_schedule.specs.CoreState.{opened, once_below}
use Rattle.daa_schedule.specs.Runs.{IsHistory}
use Rattle.daa_pool.specs.declared.view.View.{View}
use Rattle.daa_pool.specs.declared.view.Part.{Part}
use Rattle.daa_pool.specs.declared.seat.Seat.{Seat}
use Rattle.daa_pool.specs.declared.pool.Pool.{Pool}
use Rattle.daa_pool.specs.View.{part_of, times}
use Rattle.daa_pool.specs.Inside.View.{HasPart, HasNumber, gathered}
use Rattle.daa_pool.specs.History.{IsPartOf, IsOneHistory}
use Rattle.daa_pool.specs.Seat.{view, workers_of, units_of, IsDone}
use Rattle.daa_pool.specs.Pool.{AreAll, HaveAnswers, HasPartOf}
use Rattle.daa_pool.proofs.Lists.{Contains-nil}
use Rattle.daa_pool.proofs.Joining.{joined_left, joined_own}

-- the part of a seat that took in another
part_left : (v w : View) (part : Part) → HasPart v part → HasPart (gathered v w) part
part_left v w part (inl e) = inl e
part_left v w part (inr h) = inr (joined_left v w part h)

-- while seats are joined to one: what this one has, and what is left
pub record IsGathering (p : Pool) (seats left : List Seat) (seat : Seat) : Type 0 where
  pub done : IsDone p seat
  pub others : All (λ s. IsDone p s) left
  pub parts : (s : Seat) → Contains seats s → HasPart (view seat) (part_of (view s)) ⊎ Contains left s
  pub settled : (u : ℕ) → times u (view seat).settled + sum_by (λ s. times u (view s).settled) left ≡ sum_by (λ s. times u (view s).settled) seats
  pub answers_are : (answers : List ℕ) → HaveAnswers answers seats → (view seat).answers ≡ answers

-- while words are read: the first count of them are answers
pub record IsReading (p : Pool) (seats : List Seat) (seat : Seat) (words : List ℕ) (count : ℕ) : Type 0 where
  pub done : IsDone p seat
  pub parts : (s : Seat) → Contains seats s → HasPart (view seat) (part_of (view s))
  pub settled : (u : ℕ) → times u (view seat).settled ≡ sum_by (λ s. times u (view s).settled) seats
  pub answers_are : (answers : List ℕ) → HaveAnswers answers seats → (view seat).answers ≡ answers
  pub long : length words ≡ length (view seat).answers
  pub filled : (k : ℕ) → k < count → slice_index words k ≡ slice_index (view seat).answers k
  pub once : 0 < count → (u : ℕ) → times u (view seat).settled ≡ once_below u (length (view seat).answers)
  pub history : 0 < count → IsOneHistory (view seat).answers (view seat).workers (HasPart (view seat))

-- the first seat is taken, and others are joined to it
pub gathers_first : (p : Pool) (seats left : List Seat) (seat : Seat) → seats ≡ left ++ seat ∷ [] → All (λ s. IsDone p s) seats → IsGathering p seats left seat
gathers_first p seats left seat e done = let both = All-pop (λ s. IsDone p s) seats left (Some seat) e done in
    let here : Contains seats seat = subst (λ (xs : List Seat). Contains xs seat) (sym e) (Contains-push left seat) in record {
      done = both.1;
      others = both.0;
      parts = λ s h. ⊎_elim (λ t. inr t) (λ t. inl (inl (ap (λ (s : Seat). part_of (view s)) t))) (Contains-push_cases left seat s (subst (λ (xs : List Seat). Contains xs s) e h));
      settled = λ u. let q = sum_by_push (λ (s : Seat). times u (view s).settled) left seat in
          let q' = ap (λ (xs : List Seat). sum_by (λ s. times u (view s).settled) xs) e in omega arith;
      answers_are = λ answers h. All-contains (λ s. (view s).answers ≡ answers) seats seat h here;
    }

-- the last of the seats that are left can be joined
pub last_done : (p : Pool) (seats left left' : List Seat) (seat other : Seat) → IsGathering p seats left seat → left ≡ left' ++ other ∷ [] → IsDone p other
last_done p seats left left' seat other g e = (All-pop (λ s. IsDone p s) left left' (Some other) e g.others).1

pub gathers_more : (p : Pool) (seats left left' : List Seat) (seat seat' other : Seat) → IsGathering p seats left seat
    → left ≡ left' ++ other ∷ [] → IsDone p seat' → view seat' ≡ gathered (view seat) (view other)
    → IsGathering p seats left' seat'
gathers_more p seats left left' seat seat' other g e done is = record {
  done = done;
  others = (All-pop (λ s. IsDone p s) left left' (Some other) e g.others).0;
  parts = λ s h. ⊎_elim
      (λ t. inl (subst (λ (x : View). HasPart x (part_of (view s))) (sym is) (part_left (view seat) (view other) (part_of (view s)) t)))
      (λ t. ⊎_elim (λ q. inr q)
      (λ q. inl (subst (λ (x : View). HasPart x (part_of (view s))) (sym is)
      (subst (λ (y : Seat). HasPart (gathered (view seat) (view other)) (part_of (view y))) q (inr (joined_own (view seat) (view other))))))
      (Contains-push_cases left' other s (subst (λ (xs : List Seat). Contains xs s) e t)))
      (g.parts s h);
  settled = λ u. let q = sum_by_push (λ (s : Seat). times u (view s).settled) left' other in
      let q' = ap (λ (xs : List Seat). sum_by (λ s. times u (view s).settled) xs) e in
      let a = g.settled u in
      let b = ap (λ (x : View). times u x.settled) is in
      let d = sum_by-append (λ (x : ℕ). cond (eqb x u) 1 0) (view seat).settled (view other).settled in
      omega arith;
  answers_are = λ answers h. ap (λ (x : View). x.answers) is ∙ g.answers_are answers h;
}

-- no seat is left, and nothing is read yet
pub reads_first : (p : Pool) (seats left : List Seat) (seat : Seat) (words : List ℕ) → IsGathering p seats left seat → left ≡ [] → length words ≡ units_of p → IsReading p seats seat words 0
reads_first p seats left seat words g e long = let d = g.done in let of = d.of in record {
  done = d;
  parts = λ s h. ⊎_elim (λ t. t) (λ t. absurd (Contains-nil s (subst (λ (xs : List Seat). Contains xs s) e t))) (g.parts s h);
  settled = λ u. let a = g.settled u in let b = ap (λ (xs : List Seat). sum_by (λ s. times u (view s).settled) xs) e in
      let z : sum_by (λ (s : Seat). times u (view s).settled) [] ≡ 0 = refl in omega arith;
  answers_are = g.answers_are;
  long = long ∙ sym of.units;
  filled = λ k h. absurd (omega arith);
  once = λ h. absurd (omega arith);
  history = λ h. absurd (omega arith);
}

-- a seat that has the part of every seat has every number
pub reads_all : (p : Pool) (seats : List Seat) (seat : Seat) (words : List ℕ) (count : ℕ)
    → IsReading p seats seat words count
    → AreAll (workers_of p) seats → (n : ℕ) → n < workers_of p → HasNumber (view seat) n
reads_all p seats seat words count r all n low = let a = all n low in number (part_of (view a.0)) (r.parts a.0 a.1) a.2
  where
    number : (part : Part) → HasPart (view seat) part → part.number ≡ n → HasNumber (view seat) n
    number part (inl e) is = inl (ap (λ (q : Part). q.number) e ∙ is)
    number part (inr h) is = inr (part, h, is)

pub reads_more : (p : Pool) (seats : List Seat) (seat seat' : Seat) (words : List ℕ) (count word : ℕ)
    → IsReading p seats seat words count → count < length words → IsDone p seat' → view seat' ≡ view seat
    → word ≡ slice_index (view seat).answers count → ((u : ℕ) → times u (view seat).settled ≡ once_below u (length (view seat).answers))
    → IsOneHistory (view seat).answers (view seat).workers (HasPart (view seat)) → IsReading p seats seat' (set words count word) (count + 1)
reads_more p seats seat seat' words count word r low done is found once history = record {
  done = done;
  parts = λ s h. subst (λ (x : View). HasPart x (part_of (view s))) (sym is) (r.parts s h);
  settled = λ u. ap (λ (x : View). times u x.settled) is ∙ r.settled u;
  answers_are = λ answers h. ap (λ (x : View). x.answers) is ∙ r.answers_are answers h;
  long = length-set words count word ∙ (r.long ∙ ap (λ (x : View). length x.answers) (sym is));
  filled = below_more (λ k. slice_index (set words count word) k ≡ slice_index (view seat').answers k) count
      (λ k h. get_or-set_other words count k word 0 (λ e. absurd (omega arith)) ∙ (r.filled k h ∙ ap (λ (x : View). slice_index x.answers k) (sym is)))
      (get_or-set_same words count word 0 low ∙ (found ∙ ap (λ (x : View). slice_index x.answers count) (sym is)));
  once = λ h u. ap (λ (x : View). times u x.settled) is ∙ (once u ∙ ap (λ (x : View). once_below u (length x.answers)) (sym is));
  history = λ h. subst (λ (x : View). IsOneHistory x.answers x.workers (HasPart x)) (sym is) history;
}

pub all_read : (p : Pool) (seats : List Seat) (seat : Seat) (words : List ℕ) (count : ℕ)
    → IsReading p seats seat words count
    → length words ≤ count → (answers : List ℕ) → HaveAnswers answers seats → words ≡ answers
all_read p seats seat words count r long answers h =
    ext_get_or 0 words (view seat).answers r.long (λ i low. r.filled i (omega arith)) ∙ r.answers_are answers h

pub all_settled : (p : Pool) (seats : List Seat) (seat : Seat) (words : List ℕ) (count n : ℕ)
    → IsReading p seats seat words count
    → 0 < count → length words ≡ n → (u : ℕ) → sum_by (λ s. times u (view s).settled) seats ≡ once_below u n
all_settled p seats seat words count n r some e u = sym (r.settled u) ∙ (r.once some u ∙ ap (λ (k : ℕ). once_below u k) (sym r.long ∙ e))

pub all_told : (p : Pool) (seats : List Seat) (seat : Seat) (words : List ℕ) (count : ℕ)
    → IsReading p seats seat words count
    → 0 < count → (answers : List ℕ) → HaveAnswers answers seats → IsOneHistory answers (workers_of p) (HasPartOf seats)
all_told p seats seat words count r some answers h = let t = r.history some in let d = r.done in let of = d.of in record {
  log = t.log;
  core = t.core;
  history = subst (λ (q : List ℕ × ℕ). IsHistory (opened q.0 q.1) t.log t.core) (λ i. (r.answers_are answers h i, of.workers i)) t.history;
  ended = t.ended;
  parts = λ part q. subst (λ (z : List ℕ × ℕ). IsPartOf (opened z.0 z.1) t.log part) (λ i. (r.answers_are answers h i, of.workers i))
      (subst (λ (x : Part). IsPartOf (opened (view seat).answers (view seat).workers) t.log x) q.2 (t.parts (part_of (view q.0)) (r.parts q.0 q.1)));
}
