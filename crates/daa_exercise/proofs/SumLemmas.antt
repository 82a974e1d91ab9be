-- How often each level stands among levels adds up to how many levels there are.
use Rattle.std.proofs.Common.{◌≡◌, ◌∙◌, ◌⊎◌, inl, inr, ◌<◌, ◌≤◌, ◌+◌, ◌*◌, ℕ, zero, suc, List, [], ◌∷◌, ◌++◌, length}
use Rattle.std.proofs.Common.{map, refl, sym, ap, arith, subst, zero-add, add-one, suc-mul, zero-mul, length-append}
use Rattle.std.specs.Prelude.{slice_index, cond, ◌==◌}
use Rattle.std.specs.List.{AllByRecursion, AllZip, range_with_len, sum}
use Rattle.std.proofs.lemmas.Bool.{cases_lt}
use Rattle.std.proofs.lemmas.Bool.Decides.{nat_tests}
use Rattle.std.proofs.lemmas.List.FromFn.{sum_by-map-range_with_len_more}
use Rattle.std.proofs.lemmas.List.Sums.{sum_by-cons}
use Rattle.std.proofs.lemmas.Slice.Zip.{AllZip-long}
use Rattle.daa_bands.specs.Parts.{SplitsByEach}
use Rattle.daa_config.specs.Candidates.{values_of}
use Rattle.daa_config.specs.Settings.{Settings}
use Rattle.daa_config.specs.declared.kind.Kind.{Kind}
use Rattle.daa_legs.specs.Alerts.{IsAlertLevel}
use Rattle.daa_state.specs.Picture.{aircraft_of}
use Rattle.daa_state.specs.declared.word.Picture.{Picture}
use Rattle.daa_state.specs.declared.word.Traffic.{Traffic}
use Rattle.daa_exercise.specs.Inside.Counting.{HasAlerts, HasShown, aircraft_in}
use Rattle.daa_exercise.specs.Levels.{counts_of}
use Rattle.daa_exercise.proofs.CountLemmas.{how_often}

-- ---- one level more

-- 1 at its own place
one_at : ℕ → ℕ → ℕ
one_at x level = cond (x == level) 1 0

how_often_cons : (x : ℕ) (levels : List ℕ) (level : ℕ) → how_often (x ∷ levels) level ≡ one_at x level + how_often levels level
unfolding one_at
how_often_cons x levels level = sum_by-cons (λ other. cond (other == level) 1 0) x levels

-- the sum over the first places
abbrev total : (ℕ → ℕ) → ℕ → ℕ
total f n = sum (map f (range_with_len 0 n))

total_more : (f : ℕ → ℕ) (n : ℕ) → total f (n + 1) ≡ total f n + f n
total_more f n = sum_by-map-range_with_len_more (λ (k : ℕ). k) f 0 n n (zero-add n)

total_suc : (f : ℕ → ℕ) (n : ℕ) → total f (suc n) ≡ total f n + f n
total_suc f n = ap (total f) (sym (add-one n)) ∙ total_more f n

total_none : (f : ℕ → ℕ) → ((k : ℕ) → f k ≡ 0) → (n : ℕ) → total f n ≡ 0
total_none f none zero = refl
total_none f none (suc n) = let e = total_suc f n in let h = total_none f none n in let k = none n in omega (arith, e, h, k)

total_sum : (f g h : ℕ → ℕ) → ((k : ℕ) → h k ≡ f k + g k) → (n : ℕ) → total h n ≡ total f n + total g n
total_sum f g h is zero = refl
total_sum f g h is (suc n) =
    let a = total_suc f n in let b = total_suc g n in let c = total_suc h n in let e = total_sum f g h is n in let k = is n in omega (arith, a, b, c, e, k)

one_same : (x : ℕ) → one_at x x ≡ 1
unfolding one_at
one_same x = grind (arith, nat_tests)

one_other : (x k : ℕ) → (x < k) ⊎ (k < x) → one_at x k ≡ 0
unfolding one_at
one_other x k (inl lt) = grind (arith, nat_tests)
one_other x k (inr gt) = grind (arith, nat_tests)

one_past : (x n : ℕ) → n ≤ x → total (one_at x) n ≡ 0
one_past x zero le = refl
one_past x (suc n) le = let a = total_suc (one_at x) n in let b = one_past x n (omega arith) in let c = one_other x n (inr (omega arith)) in omega (arith, a, b, c)

one_below : (x n : ℕ) → x < n → total (one_at x) n ≡ 1
one_below x zero lt = absurd (omega arith)
one_below x (suc n) lt = go (λ below. one_below x n below) (cases_lt x n)
  where
    go : (x < n → total (one_at x) n ≡ 1) → (x < n) ⊎ (n ≤ x) → total (one_at x) (suc n) ≡ 1
    go before (inl below) = let a = total_suc (one_at x) n in let b = before below in let c = one_other x n (inl below) in omega (arith, a, b, c)
    go before (inr at) =
        let e : x ≡ n = omega (arith, at, lt) in
        let a = total_suc (one_at x) n in let b = one_past x n at in let c = ap (one_at x) (sym e) ∙ one_same x in omega (arith, a, b, c)

-- ---- each level up to the top one

abbrev AreUpto : ℕ → List ℕ → Type 0
AreUpto top levels = AllByRecursion (λ level. level ≤ top) levels

total_how_often : (top : ℕ) (levels : List ℕ) → AreUpto top levels → total (how_often levels) (top + 1) ≡ length levels
total_how_often top [] upto = total_none (how_often []) (λ k. refl) (top + 1)
total_how_often top (x ∷ levels) upto =
    let a = total_sum (one_at x) (how_often levels) (how_often (x ∷ levels)) (how_often_cons x levels) (top + 1) in
    let b = one_below x (top + 1) (let h = upto.0 in omega arith) in
    let e = total_how_often top levels upto.1 in
    omega (arith, a, b, e)

pub counts_sum : (top : ℕ) (levels : List ℕ) → AreUpto top levels → sum (counts_of top levels) ≡ length levels
unfolding counts_of
counts_sum top levels upto = total_how_often top levels upto

upto_append : (top : ℕ) (xs ys : List ℕ) → AreUpto top xs → AreUpto top ys → AreUpto top (xs ++ ys)
upto_append top [] ys h k = k
upto_append top (x ∷ xs) ys h k = (h.0, upto_append top xs ys h.1 k)

upto_each : (top : ℕ) (xs : List ℕ) → ((i : ℕ) → i < length xs → slice_index xs i ≤ top) → AreUpto top xs
upto_each top [] h = tt
upto_each top (x ∷ xs) h = (h 0 (omega arith), upto_each top xs (λ i lt. h (suc i) (omega arith)))

-- ---- the levels of all moments

module _ (Has : Picture → List ℕ → Type 0) (top : ℕ) (each : (picture : Picture) (levels : List ℕ) → Has picture levels → AreUpto top levels) where
  all_upto : (pictures : List Picture) (levels : List ℕ) → SplitsByEach Has pictures levels → AreUpto top levels
  all_upto [] levels e = subst (AreUpto top) (sym e) tt
  all_upto (picture ∷ pictures) levels are =
      subst (AreUpto top) (sym are.joined)
      (upto_append top are.first are.second (each picture are.first are.first_is) (all_upto pictures are.second are.second_is))

module _ (s : Settings) where
  alerts_upto : (p : Picture) (levels : List ℕ) → HasAlerts s p levels → AreUpto (length s.levels) levels
  alerts_upto p levels has = go (aircraft_of p) levels has
    where
      go : (ts : List Traffic) (levels : List ℕ) → AllZip (IsAlertLevel s p.own) ts levels → AreUpto (length s.levels) levels
      go [] [] h = tt
      go [] (l ∷ levels) h = absurd h
      go (t ∷ ts) [] h = absurd h
      go (t ∷ ts) (l ∷ levels) h = (h.0.within, go ts levels h.1)

  alerts_many : (pictures : List Picture) (levels : List ℕ) → SplitsByEach (HasAlerts s) pictures levels → length levels ≡ aircraft_in pictures
  alerts_many [] levels e = ap (λ (xs : List ℕ). length xs) e
  alerts_many (p ∷ pictures) levels are =
      let a = alerts_many pictures are.second are.second_is in
      let b = AllZip-long (IsAlertLevel s p.own) (aircraft_of p) are.first are.first_is in
      let n = ap (λ (xs : List ℕ). length xs) are.joined ∙ length-append are.first are.second in
      let all = sum_by-cons (λ (picture : Picture). length (aircraft_of picture)) p pictures in
      omega (arith, a, b, n, all)

  pub alerts_add_up : (pictures : List Picture) (levels : List ℕ) → SplitsByEach (HasAlerts s) pictures levels
      → sum (counts_of (length s.levels) levels) ≡ aircraft_in pictures
  alerts_add_up pictures levels are =
      counts_sum (length s.levels) levels (all_upto (HasAlerts s) (length s.levels) alerts_upto pictures levels are) ∙ alerts_many pictures levels are

  module _ (kind : Kind) where
    abbrev Shown : Picture → List ℕ → Type 0
    Shown picture = HasShown s picture kind

    shown_upto : (p : Picture) (levels : List ℕ) → Shown p levels → AreUpto (length s.levels) levels
    shown_upto p levels has = upto_each (length s.levels) levels (λ i lt. (has.greatest i lt).within)

    shown_many : (pictures : List Picture) (levels : List ℕ) → SplitsByEach Shown pictures levels → length levels ≡ length pictures * length (values_of kind s)
    shown_many [] levels e = ap (λ (xs : List ℕ). length xs) e ∙ sym (zero-mul (length (values_of kind s)))
    shown_many (p ∷ pictures) levels are =
        let a = shown_many pictures are.second are.second_is in
        let b = are.first_is.each in
        let n = ap (λ (xs : List ℕ). length xs) are.joined ∙ length-append are.first are.second in
        let more : suc (length pictures) ≡ length (p ∷ pictures) = omega arith in
        n ∙ next (length are.first) (length are.second) (length pictures) (length (values_of kind s)) b a
        ∙ ap (λ (c : ℕ). c * length (values_of kind s)) more
      where
        next : (x y c m : ℕ) → x ≡ m → y ≡ c * m → x + y ≡ suc c * m
        next x y c m e h = omega (arith, e, h, suc-mul c m)

    pub shown_add_up : (pictures : List Picture) (levels : List ℕ) → SplitsByEach Shown pictures levels
        → sum (counts_of (length s.levels) levels) ≡ length pictures * length (values_of kind s)
    shown_add_up pictures levels are = counts_sum (length s.levels) levels (all_upto Shown (length s.levels) shown_upto pictures levels are) ∙ shown_many pictures levels are
