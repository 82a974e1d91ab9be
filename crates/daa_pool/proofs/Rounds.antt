-- Looks that were made from the next number round.
use Rattle.std.proofs.Common.{◌≡◌, ◌≢◌, ℕ, suc, ◌+◌, ◌<◌, ◌≤◌, ⊎_elim, List, [], ◌∷◌, ◌++◌, get_or, sym, ap, subst, arith}
use Rattle.std.specs.List.{All, AllPairs, Contains}
use Rattle.std.proofs.lemmas.Bool.Decides.{nat_tests}
use Rattle.std.proofs.lemmas.List.Kept.{AllPairs-cons}
use Rattle.std.proofs.lemmas.List.Elements.{Contains-get_or, Contains-append_left, Contains-append_right, Contains-append_cases, Contains-push, Contains-push_cases}
use Rattle.daa_pool.specs.declared.view.View.{View}
use Rattle.daa_pool.specs.declared.view.Look.{Look}
use Rattle.daa_pool.specs.Inside.View.{look}
use Rattle.daa_pool.specs.Claim.{way_to, GoesRound}
use Rattle.daa_pool.specs.Inside.Tour.{InTurn}
use Rattle.daa_pool.proofs.Lists.{Contains-nil}

pub pairs_append : {A : Type 0} (R : A → A → Type 0) (xs ys : List A) → AllPairs R xs → AllPairs R ys → ((x y : A) → Contains xs x → Contains ys y → R x y) → AllPairs R (xs ++ ys)
pairs_append R [] ys a b across = b
pairs_append {A} R (x ∷ xs) ys a b across = AllPairs-cons R x (xs ++ ys) first
    (pairs_append R xs ys (λ i j d lt in'. a (suc i) (suc j) d (omega arith) (omega arith)) b (λ y z h k. across y z (Contains-append_right (x ∷ []) xs y h) k))
  where
    first : All (R x) (xs ++ ys)
    first k d lt = let y : A = get_or (xs ++ ys) k d in ⊎_elim
        (λ h. let low = h.1 in subst (λ (z : A). R x z) h.2 (a 0 (suc h.0) y (omega arith) (omega arith)))
        (λ h. across x y (Contains-append_left (x ∷ []) xs x (Contains-push [] x)) h)
        (Contains-append_cases xs ys y (Contains-get_or (xs ++ ys) k d lt))

pairs_as : {A : Type 0} (R S : A → A → Type 0) (xs : List A) → AllPairs R xs → ((x y : A) → Contains xs x → Contains xs y → R x y → S x y) → AllPairs S xs
pairs_as R S xs a f i j d lt within = f (get_or xs i d) (get_or xs j d) (Contains-get_or xs i d (omega arith)) (Contains-get_or xs j d within) (a i j d lt within)

pub turn_none : (first upto : ℕ) → InTurn first upto []
turn_none first upto = record { inside = λ l h. absurd (Contains-nil l h); rising = λ i j d lt within. absurd (omega arith) }

pub turn_one : (v : View) (o word : ℕ) → InTurn o (o + 1) (look v o word ∷ [])
turn_one v o word = record {
  inside = λ l h. ⊎_elim (λ t. absurd (Contains-nil l t)) (λ e. let is : o ≡ l.worker = ap (λ (x : Look). x.worker) e in (omega arith, omega arith)) (Contains-push_cases [] (look v o word) l h);
  rising = λ i j d lt within. absurd (omega arith);
}

turn_append : (first upto : ℕ) (xs ys : List Look) → InTurn first upto xs → InTurn first upto ys → ((x y : Look) → Contains xs x → Contains ys y → x.worker ≤ y.worker) → InTurn first upto (xs ++ ys)
turn_append first upto xs ys a b across = record {
  inside = λ l h. ⊎_elim (λ t. a.inside l t) (λ t. b.inside l t) (Contains-append_cases xs ys l h);
  rising = pairs_append (λ (x y : Look). x.worker ≤ y.worker) xs ys a.rising b.rising across;
}

wider : (first upto low high : ℕ) (xs : List Look) → low ≤ first → upto ≤ high → InTurn first upto xs → InTurn low high xs
wider first upto low high xs below above a = record { inside = λ l h. let p = a.inside l h in let lo = p.0 in let hi = p.1 in (omega arith, omega arith); rising = a.rising }

-- the same worker again
pub turn_again : (o : ℕ) (xs ys : List Look) → InTurn o (o + 1) xs → InTurn o (o + 1) ys → InTurn o (o + 1) (xs ++ ys)
turn_again o xs ys a b = turn_append o (o + 1) xs ys a b (λ x y h k. let p = a.inside x h in let q = b.inside y k in let lo = p.1 in let hi = q.0 in omega arith)

-- the next workers
pub turn_more : (first middle upto end : ℕ) (xs ys : List Look) → first ≤ middle → middle ≤ upto → upto ≤ end → InTurn first middle xs → InTurn middle upto ys → InTurn first end (xs ++ ys)
turn_more first middle upto end xs ys low high last a b = turn_append first end xs ys (wider first middle first end xs (omega arith) (omega arith) a) (wider middle upto first end ys low last b)
    (λ x y h k. let p = a.inside x h in let q = b.inside y k in let lo = p.1 in let hi = q.0 in omega arith)

-- looks at one's own range
abbrev pub AtHome : ℕ → List Look → Type 0
AtHome number seen = (l : Look) → Contains seen l → l.worker ≡ number

pub home_one : (v : View) (word : ℕ) → AtHome v.number (look v v.number word ∷ [])
home_one v word l h = ⊎_elim (λ t. absurd (Contains-nil l t)) (λ e. sym (ap (λ (x : Look). x.worker) e)) (Contains-push_cases [] (look v v.number word) l h)

pub home_more : (number : ℕ) (xs ys : List Look) → AtHome number xs → AtHome number ys → AtHome number (xs ++ ys)
home_more number xs ys a b l h = ⊎_elim (λ t. a l t) (λ t. b l t) (Contains-append_cases xs ys l h)

way_up : (n w a b : ℕ) → n < a → a ≤ b → way_to n w a ≤ way_to n w b
way_up n w a b h le = grind (arith, nat_tests)

way_down : (n w a b : ℕ) → b < n → a ≤ b → way_to n w a ≤ way_to n w b
way_down n w a b h le = grind (arith, nat_tests)

way_over : (n w a b : ℕ) → n < a → a < w → b < n → way_to n w a ≤ way_to n w b
way_over n w a b h lt k = grind (arith, nat_tests)

module _ (n w : ℕ) where
  abbrev Order : Look → Look → Type 0
  Order x y = x.worker ≢ n → y.worker ≢ n → way_to n w x.worker ≤ way_to n w y.worker

  pub round_up : (xs : List Look) → InTurn (n + 1) w xs → GoesRound n w xs
  round_up xs a = pairs_as (λ (x y : Look). x.worker ≤ y.worker) Order xs a.rising (λ x y h k le f g. let p = a.inside x h in let lo = p.0 in way_up n w x.worker y.worker (omega arith) le)

  round_down : (xs : List Look) → InTurn 0 n xs → GoesRound n w xs
  round_down xs a = pairs_as (λ (x y : Look). x.worker ≤ y.worker) Order xs a.rising (λ x y h k le f g. let q = a.inside y k in let hi = q.1 in way_down n w x.worker y.worker hi le)

  pub round_both : (xs ys : List Look) → InTurn (n + 1) w xs → InTurn 0 n ys → GoesRound n w (xs ++ ys)
  round_both xs ys a b = pairs_append Order xs ys (round_up xs a) (round_down ys b)
      (λ x y h k f g. let p = a.inside x h in let q = b.inside y k in let lo = p.0 in let hi = q.1 in way_over n w x.worker y.worker (omega arith) p.1 hi)

  pub round_home : (xs : List Look) → AtHome n xs → GoesRound n w xs
  round_home xs a i j d lt within f g = absurd (f (a (get_or xs i d) (Contains-get_or xs i d (omega arith))))

  pub round_after : (xs ys : List Look) → AtHome n xs → GoesRound n w ys → GoesRound n w (xs ++ ys)
  round_after xs ys a b = pairs_append Order xs ys (round_home xs a) b (λ x y h k f g. absurd (f (a x h)))

  pub round_before : (xs ys : List Look) → GoesRound n w xs → AtHome n ys → GoesRound n w (xs ++ ys)
  round_before xs ys a b = pairs_append Order xs ys a (round_home ys b) (λ x y h k f g. absurd (g (b y k)))
