-- A list in which no unit stands twice, and all are below n, has at most n units.
use Rattle.std.proofs.Common.{◌≡◌, ℕ, zero, suc, ◌+◌, ◌<◌, ◌≤◌, eqb, ltb, cond, List, [], ◌∷◌, length, refl, ap, subst, arith}
use mathlib.Core.Option.{some}
use lib.ListN.{get_elem?}
use Rattle.std.proofs.lemmas.List.{get_or_past}
use Rattle.std.proofs.lemmas.List.Sums.{get_or-le-sum_by}
use Rattle.std.proofs.lemmas.Bool.Decides.{nat_tests}
use Rattle.daa_schedule.specs.CoreState.{times_on}
use Rattle.daa_pool.specs.declared.view.View.{View}
use Rattle.daa_pool.specs.View.{times}
use Rattle.daa_pool.specs.Inside.Rule.{Pools, Ruled}
use Rattle.daa_pool.proofs.Lists.{found_at}
use Rattle.daa_pool.proofs.Words.{times-cons}

-- how often the units below n stand in the list
abbrev all_times : ℕ → List ℕ → ℕ
all_times zero xs = 0
all_times (suc n) xs = times n xs + all_times n xs

none_times : (n : ℕ) → all_times n [] ≡ 0
none_times zero = refl
none_times (suc n) = omega (arith, none_times n)

is_hit : (x : ℕ) → ◌≡◌ {A = ℕ} (cond (eqb x x) 1 0) 1
is_hit x = grind (arith, nat_tests)

more : (x n : ℕ) → ◌≡◌ {A = ℕ} (cond (ltb x (suc n)) 1 0) (cond (eqb x n) 1 0 + cond (ltb x n) 1 0)
more x n = grind (arith, nat_tests)

all_times-cons : (n x : ℕ) (xs : List ℕ) → all_times n (x ∷ xs) ≡ cond (ltb x n) 1 0 + all_times n xs
all_times-cons zero x xs = none x
  where
    none : (x : ℕ) → ◌≡◌ {A = ℕ} 0 (cond (ltb x 0) 1 0 + 0)
    none x = grind (arith, nat_tests)
all_times-cons (suc n) x xs = let a = all_times-cons n x xs in let b = times-cons n x xs in let c = more x n in omega arith

below_is : (x n : ℕ) → x < n → ◌≡◌ {A = ℕ} (cond (ltb x n) 1 0) 1
below_is x n h = grind (arith, nat_tests)

tail_none : (x : ℕ) (xs : List ℕ) (n : ℕ) → ((u : ℕ) → n ≤ u → times u (x ∷ xs) ≡ 0) → (u : ℕ) → n ≤ u → times u xs ≡ 0
tail_none x xs n h u a = let t = times-cons u x xs in let e = h u a in omega arith

head_below : (x : ℕ) (xs : List ℕ) (n : ℕ) → ((u : ℕ) → n ≤ u → times u (x ∷ xs) ≡ 0) → n ≤ x → ⊥
head_below x xs n h a = let t = times-cons x x xs in let e = h x a in let i = is_hit x in absurd (omega arith)

lt_from : (x n : ℕ) → (n ≤ x → ⊥) → x < n
lt_from x n h = omega arith

all_here : (xs : List ℕ) (n : ℕ) → ((u : ℕ) → n ≤ u → times u xs ≡ 0) → length xs ≤ all_times n xs
all_here [] n h = omega arith
all_here (x ∷ xs) n h = let a = all_times-cons n x xs in let b = all_here xs n (tail_none x xs n h) in let c = below_is x n (lt_from x n (head_below x xs n h)) in omega arith

once_each : (n : ℕ) (xs : List ℕ) → ((u : ℕ) → times u xs ≤ 1) → all_times n xs ≤ n
once_each zero xs h = omega arith
once_each (suc n) xs h = let a = once_each n xs h in let b = h n in omega arith

pub few : (n : ℕ) (xs : List ℕ) → ((u : ℕ) → times u xs ≤ 1) → ((u : ℕ) → n ≤ u → times u xs ≡ 0) → length xs ≤ n
few n xs once none = let a = all_here xs n none in let b = once_each n xs once in omega arith

on_at_most : (u : ℕ) (board : List ℕ) → times_on u board ≤ 1
on_at_most u board = grind (arith, nat_tests)

on_past : (u : ℕ) (board : List ℕ) → length board ≤ u → times_on u board ≡ 0
on_past u board h = ap (λ (x : ℕ). cond (eqb x 0) 0 1) (get_or_past board u 0 h)

-- no seat has settled more units than there are
pub few_settled : (workers : ℕ) (s : Pools) (r : Ruled workers s) (id : ℕ) (v : View) → get_elem? s.views id ≡ some v → length v.settled ≤ length r.core.board
few_settled workers s r id v at =
    let p = found_at s.views id v v at in
    let part : (u : ℕ) → times u v.settled ≤ times_on u r.core.board =
    (λ u. let a = get_or-le-sum_by (λ (x : View). times u x.settled) s.views id v p.0 in let b = r.settled u in
    subst (λ (x : View). times u x.settled ≤ times_on u r.core.board) p.1 (omega arith)) in
    few (length r.core.board) v.settled (λ u. let a = part u in let b = on_at_most u r.core.board in omega arith) (λ u h. let a = part u in let b = on_past u r.core.board h in omega arith)
