-- All seats of a pool, from its opening over their work to its gathering.
use Rattle.std.proofs.Common.{◌≡◌, ℕ, ◌<◌, List, [], ◌∷◌, ◌++◌, length, get_or, take, drop, ⊎_elim, sym, ap, ◌∙◌, subst, arith}
use Rattle.std.specs.List.{All, Contains}
use Rattle.std.proofs.lemmas.Bool.{cases_eq}
use Rattle.std.proofs.lemmas.List.Elements.{Contains-append_left, Contains-push}
use Rattle.std.proofs.lemmas.List.{take_at, get_or_default}
use Rattle.daa_pool.specs.declared.seat.Seat.{Seat}
use Rattle.daa_pool.specs.declared.pool.Pool.{Pool}
use Rattle.daa_pool.specs.Seat.{view, workers_of, IsSeatOf, IsOpening, IsDone}
use Rattle.daa_pool.specs.Pool.{AreOpening, AreAll, HaveAnswers}
use Rattle.daa_pool.specs.Inside.Pool.{AllReady, AllWorked}

-- seats that can be gathered, whose pool has these answers
pub record AreGatherable (p : Pool) (answers : List ℕ) (seats : List Seat) : Type 0 where
  pub done : All (λ s. IsDone p s) seats
  pub all : AreAll (workers_of p) seats
  pub answers_are : HaveAnswers answers seats

some_seat : (xs : List Seat) → 0 < length xs → Seat
some_seat [] h = absurd (omega arith)
some_seat (x ∷ xs) h = x

module _ (p : Pool) (xs : List Seat) (answers : List ℕ) (opening : AreOpening p xs (workers_of p) answers) where
  at : (i : ℕ) (d : Seat) → i < length xs → IsSeatOf p (get_or xs i d) × IsOpening (view (get_or xs i d)) i (workers_of p) answers
  at i d h = opening.each i d h

  opening_ready : AllReady p xs answers
  opening_ready i d h = let a = at i d h in let o = a.1 in record { of = a.0; free = o.free; answers_are = o.answers_are }

  module _ (ys : List Seat) (long : length ys ≡ length xs) (worked : AllWorked p xs ys) where
    all_done : All (λ s. IsDone p s) ys
    all_done i d h = let w = worked i d (omega arith) in w.done

    all_answers : HaveAnswers answers ys
    all_answers i d h = let low : i < length xs = omega arith in let w = worked i d low in let o = (at i d low).1 in let same_seat = w.same_seat in same_seat.answers ∙ o.answers_are

    -- every number is that of the seat at its place
    all_numbers : (d : Seat) → AreAll (workers_of p) ys
    all_numbers d n h = let e = opening.count_is in let low : n < length xs = omega arith in let w = worked n d low in let o = (at n d low).1 in let same_seat = w.same_seat in
        let s : Seat = get_or ys n d in (s, (n, omega arith, get_or_default ys n s d (omega arith)), same_seat.number ∙ o.number_is)

    worked_gatherable : 0 < workers_of p → AreGatherable p answers ys
    worked_gatherable some = record { done = all_done; all = all_numbers (some_seat ys (let e = opening.count_is in omega arith)); answers_are = all_answers }

-- the seats of a pool that was opened, which are lent as a slice
pub lent_ready : (p : Pool) (answers : List ℕ) (xs lent : List Seat) (workers : ℕ) → workers_of p ≡ workers → AreOpening p xs workers answers → lent ≡ xs → AllReady p lent answers
lent_ready p answers xs lent workers is opening e =
    subst (λ (zs : List Seat). AllReady p zs answers) (sym e) (opening_ready p xs answers (subst (λ (n : ℕ). AreOpening p xs n answers) (sym is) opening))

-- the same seats in their vector again, after each has worked
pub worked_again : (p : Pool) (answers : List ℕ) (xs lent ys : List Seat) (workers len : ℕ)
    → workers_of p ≡ workers → AreOpening p xs workers answers → lent ≡ xs → length ys ≡ length lent → length xs ≡ len
    → AllWorked p lent ys → AreGatherable p answers (take len (ys ++ drop (length ys) xs))
worked_again p answers xs lent ys workers len is opening e long all worked =
    let lengths = ap (λ (zs : List Seat). length zs) e in let crew = p.crew in
    let back : take len (ys ++ drop (length ys) xs) ≡ ys = take_at ys (drop (length ys) xs) len (omega arith) in
    subst (λ (zs : List Seat). AreGatherable p answers zs) (sym back)
    (worked_gatherable p xs answers (subst (λ (n : ℕ). AreOpening p xs n answers) (sym is) opening) ys (omega arith) (subst (λ (zs : List Seat). AllWorked p zs ys) e worked) crew.1)

-- two seats that were put in a list, which have both numbers
pub all_of_two : (xs ys zs : List Seat) (low high : Seat) (workers : ℕ) → ys ≡ xs ++ low ∷ [] → zs ≡ ys ++ high ∷ [] → (view low).number ≡ 0 → (view high).number ≡ 1 → workers ≡ 2 → AreAll workers zs
all_of_two xs ys zs low high workers e f a b two n h = ⊎_elim
    (λ z. (low, subst (λ (l : List Seat). Contains l low) (sym f) (Contains-append_left ys (high ∷ []) low (subst (λ (l : List Seat). Contains l low) (sym e) (Contains-push xs low))), a ∙ sym z))
    (λ z. (high, subst (λ (l : List Seat). Contains l high) (sym f) (Contains-push ys high), b ∙ (let q : 1 ≡ n = omega arith in q)))
    (cases_eq n 0)
