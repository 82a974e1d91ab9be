-- Elements of lists, and totals over them.
use Rattle.std.proofs.Common.{◌≡◌, ◌≢◌, ℕ, zero, suc, ◌+◌, ◌<◌, ◌⊎◌, inl, inr, ⊎_elim, List, [], ◌∷◌, ◌++◌, length, get_or, set, sym, refl, ap, subst, arith}
use mathlib.Core.Option.{some, some-injective, some-ne-none}
use lib.ListN.{get_elem?}
use Rattle.std.specs.List.{sum_by, Contains}
use Rattle.std.proofs.lemmas.List.Sums.{sum_by-set, sum_by-cons}
use Rattle.std.proofs.lemmas.List.Elements.{Contains-append_cases, Contains-push_cases}

pub Contains-nil : {A : Type 0} (x : A) → Contains [] x → ⊥
Contains-nil x h = let p = h.1 in absurd (omega arith)

pub Contains-cons_cases : {A : Type 0} (x y : A) (xs : List A) → Contains (x ∷ xs) y → (x ≡ y) ⊎ Contains xs y
Contains-cons_cases x y xs h = ⊎_elim (λ t. ⊎_elim (λ z. absurd (Contains-nil y z)) (λ e. inl e) (Contains-push_cases [] x y t)) (λ t. inr t) (Contains-append_cases (x ∷ []) xs y h)

pub found_at : {A : Type 0} (l : List A) (i : ℕ) (a d : A) → get_elem? l i ≡ some a → (i < length l) × (get_or l i d ≡ a)
found_at [] i a d e = absurd (some-ne-none a (sym e))
found_at (x ∷ xs) zero a d e = (omega arith, some-injective x a e)
found_at (x ∷ xs) (suc i) a d e = let p = found_at xs i a d e in (let q = p.0 in omega arith, p.1)

pub total_set : {A : Type 0} (f : A → ℕ) (l : List A) (i : ℕ) (a b : A) → get_elem? l i ≡ some a → sum_by f (set l i b) + f a ≡ sum_by f l + f b
total_set {A} f l i a b e = let p = found_at l i a a e in
    subst (λ (x : A). sum_by f (set l i b) + f x ≡ sum_by f l + f b) p.1 (sum_by-set f l i b a p.0)

-- the element at the end, and where it stands
pub at_end : {A : Type 0} (l : List A) (a b : A) (j : ℕ) → get_elem? (l ++ a ∷ []) j ≡ some b → ((j < length l) × (get_elem? l j ≡ some b)) ⊎ ((j ≡ length l) × (a ≡ b))
at_end [] a b zero e = inr (refl, some-injective a b e)
at_end [] a b (suc j) e = absurd (some-ne-none b (sym e))
at_end (x ∷ xs) a b zero e = inl (omega arith, e)
at_end (x ∷ xs) a b (suc j) e = ⊎_elim (λ t. let p = t.0 in inl (omega arith, t.1)) (λ t. inr (ap suc t.0, t.1)) (at_end xs a b j e)

-- a total to which one element alone adds
sum_zero : {A : Type 0} (f : A → ℕ) (l : List A) → ((j : ℕ) (x : A) → get_elem? l j ≡ some x → f x ≡ 0) → sum_by f l ≡ 0
sum_zero f [] h = refl
sum_zero f (x ∷ xs) h = let a = sum_by-cons f x xs in let b = h 0 x refl in let d = sum_zero f xs (λ j y e. h (suc j) y e) in omega arith

pub sum_alone : {A : Type 0} (f : A → ℕ) (l : List A) (i : ℕ) (v : A) → get_elem? l i ≡ some v → ((j : ℕ) (x : A) → get_elem? l j ≡ some x → j ≢ i → f x ≡ 0) → sum_by f l ≡ f v
sum_alone f [] i v at h = absurd (some-ne-none v (sym at))
sum_alone f (x ∷ xs) zero v at h = let a = sum_by-cons f x xs in let d = sum_zero f xs (λ j y e. h (suc j) y e (λ z. absurd (omega arith))) in
    let e : f x ≡ f v = ap f (some-injective x v at) in omega arith
sum_alone f (x ∷ xs) (suc i) v at h = let a = sum_by-cons f x xs in let b = h 0 x refl (λ z. absurd (omega arith)) in
    let d = sum_alone f xs i v at (λ j y e n. h (suc j) y e (λ z. n (omega arith))) in omega arith
