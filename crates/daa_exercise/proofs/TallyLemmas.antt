-- What a tally counts, level after level.
use Rattle.std.proofs.Common.{◌≡◌, ◌∙◌, ◌⊎◌, inl, inr, ◌<◌, ◌≤◌, ◌+◌, ◌-◌, ℕ, zero, suc, pos}
use Rattle.std.proofs.Common.{List, [], ◌∷◌, ◌++◌, length, take, take_all, below_more, refl}
use Rattle.std.proofs.Common.{sym, ap, arith, subst, append_assoc, add-one, append-nil, length-append}
use Rattle.std.specs.Prelude.{slice_index, slice_index_or}
use Rattle.std.specs.List.{AllZip}
use Rattle.std.proofs.lemmas.Bool.{cases_lt}
use Rattle.std.proofs.lemmas.List.{length_push, get_or_push, get_or_append_left, get_or-append_right}
use Rattle.daa_state.specs.Bounds.{exact}
use Rattle.daa_state.specs.declared.word.Traffic.{Traffic}
use Rattle.daa_bands.specs.Board.{HasLevelOn, mask_levels}
use Rattle.daa_bands.specs.KindBands.{AreShown}
use Rattle.daa_config.specs.Candidates.{start_of, values_of}
use Rattle.daa_fixed.specs.Mask.{IsGreatestLevel}
use Rattle.daa_config.specs.Settings.{Settings}
use Rattle.daa_config.specs.declared.kind.Kind.{Kind}
use Rattle.daa_exercise.specs.Inside.Counting.{Adds, CountsMore, HasRoomFor}
use Rattle.daa_exercise.specs.Levels.{counts_of}

-- ---- levels counted one after another

pub counts_none : (tally : List ℕ) → CountsMore [] tally tally
counts_none tally levels e = e ∙ ap (counts_of mask_levels) (sym (append-nil levels))

pub counts_next : (here : List ℕ) (level : ℕ) (a b c : List ℕ) → CountsMore here a b → CountsMore (level ∷ []) b c → CountsMore (here ++ level ∷ []) a c
counts_next here level a b c h k levels e = k (levels ++ here) (h levels e) ∙ ap (counts_of mask_levels) (append_assoc levels here (level ∷ []))

-- ---- a relation that holds place by place

pub zip_next : {A : Type 0} (R : A → ℕ → Type 0) (xs : List A) (ys : List ℕ) (n : ℕ) (d : A) (y : ℕ) → n < length xs → AllZip R (take n xs) ys
    → R (slice_index_or xs n d) y → AllZip R (take (suc n) xs) (ys ++ y ∷ [])
zip_next {A} R [] ys n d y lt h r = absurd (omega arith)
zip_next {A} R (x ∷ xs) [] zero d y lt h r = (r, tt)
zip_next {A} R (x ∷ xs) (z ∷ ys) zero d y lt h r = absurd h
zip_next {A} R (x ∷ xs) [] (suc n) d y lt h r = absurd h
zip_next {A} R (x ∷ xs) (z ∷ ys) (suc n) d y lt h r = (h.0, zip_next R xs ys n d y (omega arith) h.1 r)

-- ---- a tally that can take so many levels more

pub room_for : (n m : ℕ) (tally : List ℕ) → n ≤ m → HasRoomFor m tally → HasRoomFor n tally
room_for n m tally le h level = let k = h level in omega arith

-- ---- one aircraft more

module _ {A : Type 0} (R : A → ℕ → Type 0) (xs : List A) where
  pub add_none : (tally : List ℕ) → Adds (AllZip R []) tally tally
  add_none tally = ([], tt, counts_none tally)

  pub add_next : (place level : ℕ) (d : A) (a b c : List ℕ) → place < length xs → R (slice_index_or xs place d) level → Adds (AllZip R (take place xs)) a b
      → CountsMore (level ∷ []) b c → Adds (AllZip R (take (place + 1) xs)) a c
  add_next place level d a b c lt is (here, are, more) one = (
    here ++ level ∷ [],
    subst (λ (n : ℕ). AllZip R (take n xs) (here ++ level ∷ [])) (sym (add-one place)) (zip_next R xs here place d level lt are is),
    counts_next here level a b c more one,
  )

  pub add_all : (n : ℕ) (a b : List ℕ) → length xs ≤ n → Adds (AllZip R (take n xs)) a b → Adds (AllZip R xs) a b
  add_all n a b le (here, are, more) = (here, subst (λ (ys : List A). AllZip R ys here) (take_all n xs le) are, more)

-- an aircraft that stands for those past the end of a list
abbrev pub no_aircraft : Traffic
no_aircraft = record { id = []; x = pos 0; y = pos 0; alt = pos 0; vx = pos 0; vy = pos 0; vs = pos 0; age = 0; bounds = exact }

-- ---- one candidate more

-- the board shows a level of the candidate at an index
abbrev pub ShowsAt : List ℕ → ℕ → ℕ → Type 0
ShowsAt board index level = IsGreatestLevel (HasLevelOn board index) mask_levels level

-- they are as many, and each is so by its place
pub record AreFirst (Is : ℕ → ℕ → Type 0) (count : ℕ) (levels : List ℕ) : Type 0 where
  pub many : length levels ≡ count
  pub each : (i : ℕ) → i < length levels → Is i (slice_index levels i)

module _ (Is : ℕ → ℕ → Type 0) where
  pub first_none : (tally : List ℕ) → Adds (AreFirst Is 0) tally tally
  first_none tally = ([], record { many = refl; each = λ i lt. absurd (omega arith) }, counts_none tally)

  first_more : (count level : ℕ) (here : List ℕ) → AreFirst Is count here → Is count level → AreFirst Is (count + 1) (here ++ level ∷ [])
  first_more count level here are is = record {
    many = length_push here level ∙ ap (λ (n : ℕ). n + 1) are.many;
    each = λ i lt. below_more (λ (j : ℕ). Is j (slice_index (here ++ level ∷ []) j)) (length here)
        (λ j below. subst (Is j) (sym (get_or_append_left here (level ∷ []) 0 j below)) (are.each j below)) last i
        (let e = length_push here level in omega (arith, e, lt));
  }
    where
      last : Is (length here) (slice_index (here ++ level ∷ []) (length here))
      last = subst (λ (n : ℕ). Is n (slice_index (here ++ level ∷ []) n)) (sym are.many)
          (subst (Is count) (sym (get_or_push here level 0 count are.many)) is)

  pub first_next : (count level : ℕ) (a b c : List ℕ) → Is count level → Adds (AreFirst Is count) a b → CountsMore (level ∷ []) b c → Adds (AreFirst Is (count + 1)) a c
  first_next count level a b c is (here, are, more) one = (here ++ level ∷ [], first_more count level here are is, counts_next here level a b c more one)

  -- the same, where the number and the tally have other names
  pub first_as : (n m : ℕ) (a b other : List ℕ) → n ≡ m → other ≡ b → Adds (AreFirst Is n) a b → Adds (AreFirst Is m) a other
  first_as n m a b other e f h = subst (λ (k : ℕ). Adds (AreFirst Is k) a other) e (subst (Adds (AreFirst Is n) a) (sym f) h)

-- those from an index on, and then those that come next
pub first_joined : (At : ℕ → ℕ → Type 0) (start m n : ℕ) (xs ys : List ℕ) → AreFirst (λ i. At (start + i)) m xs → AreFirst (λ i. At (start + m + i)) n ys
    → AreFirst (λ i. At (start + i)) (m + n) (xs ++ ys)
first_joined At start m n xs ys h k = record {
  many = long;
  each = λ i lt. at i lt (cases_lt i (length xs));
}
  where
    long : length (xs ++ ys) ≡ m + n
    long = let e = length-append xs ys in let f = h.many in let g = k.many in omega (arith, e, f, g)

    at : (i : ℕ) → i < length (xs ++ ys) → (i < length xs) ⊎ (length xs ≤ i) → At (start + i) (slice_index (xs ++ ys) i)
    at i lt (inl below) = subst (At (start + i)) (sym (get_or_append_left xs ys 0 i below)) (h.each i below)
    at i lt (inr past) =
        let f = h.many in
        let g = k.many in
        let rest : i - length xs < length ys = omega (arith, long, f, g, lt, past) in
        let there : start + m + (i - length xs) ≡ start + i = omega (arith, f, past) in
        subst (At (start + i)) (sym (get_or-append_right xs ys (length xs) i 0 refl past))
        (subst (λ (index : ℕ). At index (slice_index ys (i - length xs))) there (k.each (i - length xs) rest))

-- a board's levels of all candidates of a kind
pub add_shown : (board : List ℕ) (s settings : Settings) (kind : Kind) (start count n : ℕ) (a b : List ℕ) → s ≡ settings → start ≡ start_of kind s
    → count ≡ length (values_of kind s) → n ≤ count → count ≤ n
    → Adds (AreFirst (λ i. ShowsAt board (start + i)) n) a b → Adds (AreShown (HasLevelOn board) mask_levels settings kind) a b
add_shown board s settings kind start count n a b same begin many low high (here, are, more) =
    subst (λ (x : Settings). Adds (AreShown (HasLevelOn board) mask_levels x kind) a b) same (here, shown, more)
  where
    shown : AreShown (HasLevelOn board) mask_levels s kind here
    shown = record {
      each = (let m = are.many in omega (arith, m, many, low, high));
      greatest = λ i lt. subst (λ (k : ℕ). ShowsAt board (k + i) (slice_index here i)) begin (are.each i lt);
    }
