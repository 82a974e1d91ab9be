-- The seats of a pool that is being opened.
use Rattle.std.proofs.Common.{◌≡◌, ℕ, ◌+◌, ◌-◌, ◌<◌, List, [], ◌∷◌, ◌++◌, length, sym, refl, ap, ◌∙◌, subst, arith, add-one}
use Rattle.std.proofs.lemmas.List.{length_push, get_or_push, get_or_append_left}
use mathlib.Core.Logic.{dite}
use native.Mathlib.Decide.{ℕ_discrete}
use Rattle.daa_schedule.specs.CoreState.{no_units, range_at, opened}
use Rattle.daa_schedule.proofs.Runs.{same_at}
use Rattle.daa_pool.specs.declared.view.View.{View}
use Rattle.daa_pool.specs.declared.seat.Seat.{Seat}
use Rattle.daa_pool.specs.declared.pool.Pool.{Pool}
use Rattle.daa_pool.specs.Inside.View.{left_behind, next_seat}
use Rattle.daa_pool.specs.Seat.{view, workers_of, IsSeatOf, IsOpening}
use Rattle.daa_pool.specs.Pool.{AreOpening}
use Rattle.daa_pool.specs.Inside.Dealing.{IsLast}

-- one seat more is dealt
pub dealt_more : (p : Pool) (seats : List Seat) (s : Seat) (count : ℕ) (answers : List ℕ) → AreOpening p seats count answers → IsSeatOf p s → IsOpening (view s) count (workers_of p) answers
    → AreOpening p (seats ++ s ∷ []) (count + 1) answers
dealt_more p seats s count answers a of open' = record {
  count_is = let c = a.count_is in let e = length_push seats s in omega arith;
  each = λ n d h. dite (ℕ_discrete n count)
      (λ e. subst (λ (z : ℕ × Seat). IsSeatOf p z.1 × IsOpening (view z.1) z.0 (workers_of p) answers) (λ i. (sym e i, sym (get_or_push seats s d n (a.count_is ∙ sym e)) i)) (of, open'))
      (λ ne. let c = a.count_is in let l = length_push seats s in let low : n < length seats = omega arith in
      subst (λ (z : Seat). IsSeatOf p z × IsOpening (view z) n (workers_of p) answers) (sym (get_or_append_left seats (s ∷ []) d n low)) (a.each n d low));
}

pub left_opening : (v : View) (n workers : ℕ) (answers : List ℕ) → IsLast v n workers answers → IsOpening (left_behind v) n workers answers
left_opening v n workers answers l = let o = l.opening in let f = o.free in
    record {
      number_is = o.number_is;
      workers_are = o.workers_are;
      answers_are = o.answers_are;
      bound = o.bound;
      free = record { hand = f.hand; going = f.going };
      settled = o.settled;
      looks = o.looks;
      moves = o.moves;
      joined = o.joined;
    }

pub next_last : (v : View) (n workers : ℕ) (answers : List ℕ) → IsLast v n workers answers → IsLast (next_seat v) (n + 1) workers answers
next_last v n workers answers l = let o = l.opening in record {
  opening = record {
    number_is = l.made;
    workers_are = o.workers_are;
    answers_are = o.answers_are;
    bound = none;
    free = record { hand = refl; going = refl };
    settled = refl;
    looks = refl;
    moves = refl;
    joined = refl;
  };
  carries = refl;
  made = ap (λ (k : ℕ). k + 1) l.made;
}
  where
    none : no_units ≡ range_at (opened answers workers) (n + 1)
    none = rw add-one (sym (same_at (workers - 1) no_units n))
