-- A value that a band reaches from and up to has the band's level.
use Rattle.std.proofs.Common.{◌≡◌, ◌∙◌, sym, ap, refl, arith, ◌+◌, ◌-◌, ◌<◌, ◌≤◌, ◌<ℤ◌, ◌≤ℤ◌, ◌+ℤ◌, ◌-ℤ◌, ◌*ℤ◌, ℕ, zero, suc, ℤ, pos, Some, List, [], ◌∷◌, ◌++◌, length, length-append, inl, inr, ◌⊎◌, subst₂}
use Rattle.std.specs.Prelude.{slice_get, slice_index, get_or}
use Rattle.std.specs.List.{zip}
use Rattle.std.proofs.lemmas.Bool.{cases_lt}
use Rattle.std.proofs.lemmas.Int.{ints}
use Rattle.std.proofs.lemmas.Option.{slice_get_within, get_or_from_slice_get, same_Some}
use Rattle.daa_fixed.proofs.Integers.{below_by_rest, mul_pos}
use Rattle.daa_fixed.proofs.Ring.{ring, #, ◌⊕◌, ◌⊖◌, ◌⊗◌}
use Rattle.daa_config.proofs.GridLemmas.{get-values, stepped_kind}
use Rattle.daa_config.specs.Candidates.{values_of, grid_of}
use Rattle.daa_config.specs.Settings.{Settings, IsAccepted}
use Rattle.daa_config.specs.declared.kind.Kind.{Kind}
use Rattle.daa_bands.specs.Band.{IsStretch}
use Rattle.daa_bands.specs.Parts.{SplitsByEach}
use Rattle.daa_bands.specs.declared.band.Band.{Band}

abbrev Mark : Type 0
Mark = ℤ × ℕ

-- ---- lists by places

get_left : {X : Type 0} (xs ys : List X) (i : ℕ) → i < length xs → slice_get (xs ++ ys) i ≡ slice_get xs i
get_left [] ys i h = absurd (omega arith)
get_left (x ∷ xs) ys zero h = refl
get_left (x ∷ xs) ys (suc i) h = get_left xs ys i (omega arith)

get_right : {X : Type 0} (xs ys : List X) (i : ℕ) → slice_get (xs ++ ys) (length xs + i) ≡ slice_get ys i
get_right [] ys i = ap (slice_get ys) (omega arith)
get_right (x ∷ xs) ys i = let e : length (x ∷ xs) + i ≡ suc (length xs + i) = omega arith in ap (slice_get (x ∷ (xs ++ ys))) e ∙ get_right xs ys i

-- ---- marks with rising values

abbrev Rises : List Mark → Type 0
Rises marks = (i j : ℕ) (a b : Mark) → i < j → slice_get marks i ≡ Some a → slice_get marks j ≡ Some b → a.0 <ℤ b.0

-- a band's first value is among the marks
begins : (bands : List Band) (marks : List Mark) → SplitsByEach IsStretch bands marks → (i : ℕ) (band : Band) → slice_get bands i ≡ Some band
    → (t : ℕ) × (slice_get marks t ≡ Some (band.from, band.level))
begins [] marks s i band e = absurd (cc e)
begins (b ∷ bands) marks s zero band e = (0, at_front)
  where
    same : b ≡ band
    same = same_Some b band e

    front : slice_get s.first 0 ≡ Some (b.from, b.level)
    front = ap (λ (ms : List Mark). slice_get ms 0) s.first_is.first.1

    at_front : slice_get marks 0 ≡ Some (band.from, band.level)
    at_front = ap (λ (ms : List Mark). slice_get ms 0) s.joined ∙ get_left s.first s.second 0 (slice_get_within s.first 0 _ front) ∙ front
        ∙ ap (λ (x : Band). Some (x.from, x.level)) same
begins (b ∷ bands) marks s (suc i) band e =
    let rest = begins bands s.second s.second_is i band e in
    (length s.first + rest.0, ap (λ (ms : List Mark). slice_get ms (length s.first + rest.0)) s.joined ∙ get_right s.first s.second rest.0 ∙ rest.1)

too_far : (x y z : ℤ) → x <ℤ y → y ≤ℤ z → z ≤ℤ x → ⊥
too_far x y z h k l = omega (arith, ints, h, k, l)

-- the mark of a value that the band at a place reaches from and up to has the band's level
reached : (bands : List Band) (marks : List Mark) → SplitsByEach IsStretch bands marks → Rises marks → (i : ℕ) (band : Band) → slice_get bands i ≡ Some band
    → (j : ℕ) (mark : Mark) → slice_get marks j ≡ Some mark → band.from ≤ℤ mark.0 → mark.0 ≤ℤ band.upto → mark.1 ≡ band.level
reached [] marks s rises i band e j mark at from upto = absurd (cc e)
reached (b ∷ bands) marks s rises zero band e j mark at from upto = go (cases_lt j (length s.first))
  where
    same : b ≡ band
    same = same_Some b band e

    joined : (t : ℕ) → slice_get marks t ≡ slice_get (s.first ++ s.second) t
    joined t = ap (λ (ms : List Mark). slice_get ms t) s.joined

    others : List Mark
    others = s.first_is.last.0

    last_there : slice_get s.first (length others) ≡ Some (b.upto, b.level)
    last_there = ap (λ (ms : List Mark). slice_get ms (length others)) s.first_is.last.1
        ∙ (let z : length others ≡ length others + 0 = omega arith in ap (slice_get (others ++ (b.upto, b.level) ∷ [])) z) ∙ get_right others ((b.upto, b.level) ∷ []) 0

    last_of : length s.first ≡ length others + 1
    last_of = ap length s.first_is.last.1 ∙ length-append others ((b.upto, b.level) ∷ [])

    last_at : slice_get marks (length others) ≡ Some (b.upto, b.level)
    last_at = joined (length others) ∙ get_left s.first s.second (length others) (slice_get_within s.first (length others) _ last_there) ∙ last_there

    go : (j < length s.first) ⊎ (length s.first ≤ j) → mark.1 ≡ band.level
    go (inl lt) =
        let inside : slice_get s.first j ≡ Some mark = sym (get_left s.first s.second j lt) ∙ sym (joined j) ∙ at in
        let here : get_or s.first j mark ≡ mark = get_or_from_slice_get s.first j mark mark inside in
        sym (ap (λ (m : Mark). m.1) here) ∙ s.first_is.level j mark lt ∙ ap (λ (x : Band). x.level) same
    go (inr ge) = absurd (too_far b.upto mark.0 band.upto (rises (length others) j _ mark (omega (arith, ge, last_of)) last_at at) upto (reach (ap (λ (x : Band). x.upto) same)))
      where
        reach : {x y : ℤ} → x ≡ y → y ≤ℤ x
        reach {x} {y} e = omega (arith, ints, e)
reached (b ∷ bands) marks s rises (suc i) band e j mark at from upto =
    go (λ r t a. reached bands s.second s.second_is r i band e t mark a from upto) (cases_lt j (length s.first))
  where
    joined : (t : ℕ) → slice_get marks t ≡ slice_get (s.first ++ s.second) t
    joined t = ap (λ (ms : List Mark). slice_get ms t) s.joined

    later : (t : ℕ) → slice_get marks (length s.first + t) ≡ slice_get s.second t
    later t = joined (length s.first + t) ∙ get_right s.first s.second t

    rises_later : Rises s.second
    rises_later t u a c lt ea ec = rises (length s.first + t) (length s.first + u) a c (omega arith) (later t ∙ ea) (later u ∙ ec)

    go : (Rises s.second → (t : ℕ) → slice_get s.second t ≡ Some mark → mark.1 ≡ band.level) → (j < length s.first) ⊎ (length s.first ≤ j) → mark.1 ≡ band.level
    go rest (inl lt) =
        let start = begins bands s.second s.second_is i band e in
        absurd (too_far mark.0 band.from mark.0 (rises j (length s.first + start.0) mark (band.from, band.level) (omega arith) at (later start.0 ∙ start.1)) from (omega (arith, ints)))
    go rest (inr ge) =
        let sum : length s.first + (j - length s.first) ≡ j = omega (arith, ge) in
        let at_later : slice_get s.second (j - length s.first) ≡ Some mark = sym (later (j - length s.first)) ∙ ap (slice_get marks) sum ∙ at in
        rest rises_later (j - length s.first) at_later

-- ---- the values of a kind

values_rise : (k : Kind) (s : Settings) → IsAccepted s → (i j : ℕ) (x y : ℤ) → i < j → slice_get (values_of k s) i ≡ Some x → slice_get (values_of k s) j ≡ Some y → x <ℤ y
values_rise k s ok i j x y lt ex ey =
    let here = same_Some _ _ (sym (get-values k s i (slice_get_within (values_of k s) i x ex)) ∙ ex) in
    let there = same_Some _ _ (sym (get-values k s j (slice_get_within (values_of k s) j y ey)) ∙ ey) in
    rise (grid_of k s).min (grid_of k s).step x y (stepped_kind s k ok).step here there
  where
    apart : (p q m step : ℤ) → p <ℤ q → pos 1 ≤ℤ step → (m +ℤ p *ℤ step) <ℤ (m +ℤ q *ℤ step)
    apart p q m step h one = below_by_rest _ _ ((q -ℤ p) *ℤ step)
        (ring (p ∷ q ∷ m ∷ step ∷ []) ((# 2 ⊕ # 1 ⊗ # 3) ⊖ (# 2 ⊕ # 0 ⊗ # 3)) ((# 1 ⊖ # 0) ⊗ # 3) tt)
        (mul_pos (q -ℤ p) step (omega (arith, ints, h)) (omega (arith, ints, one)))

    rise : (m step x y : ℤ) → pos 1 ≤ℤ step → m +ℤ pos i *ℤ step ≡ x → m +ℤ pos j *ℤ step ≡ y → x <ℤ y
    rise m step x y one a b = subst₂ (λ (u v : ℤ). u <ℤ v) a b (apart (pos i) (pos j) m step (omega (arith, ints, lt)) one)

-- ---- values with their levels

first_of : (xs : List ℤ) (ls : List ℕ) (i : ℕ) (mark : Mark) → slice_get (zip xs ls) i ≡ Some mark → slice_get xs i ≡ Some mark.0
first_of [] ls i mark e = absurd (cc e)
first_of (x ∷ xs) [] i mark e = absurd (cc e)
first_of (x ∷ xs) (l ∷ ls) zero mark e = ap (λ (m : Mark). Some m.0) (same_Some (x, l) mark e)
first_of (x ∷ xs) (l ∷ ls) (suc i) mark e = first_of xs ls i mark e

mark_at : (xs : List ℤ) (ls : List ℕ) (i : ℕ) (x : ℤ) → slice_get xs i ≡ Some x → i < length ls → slice_get (zip xs ls) i ≡ Some (x, slice_index ls i)
mark_at [] ls i x e lt = absurd (cc e)
mark_at (y ∷ xs) [] i x e lt = absurd (omega arith)
mark_at (y ∷ xs) (l ∷ ls) zero x e lt = ap (λ (z : ℤ). Some (z, l)) (same_Some y x e)
mark_at (y ∷ xs) (l ∷ ls) (suc i) x e lt = mark_at xs ls i x e (omega arith)

-- the value has the band's level
pub level_in_band : (k : Kind) (s : Settings) → IsAccepted s → (levels : List ℕ) → length levels ≡ length (values_of k s) → (bands : List Band)
    → SplitsByEach IsStretch bands (zip (values_of k s) levels) → (i : ℕ) (band : Band) → slice_get bands i ≡ Some band
    → (index : ℕ) (value : ℤ) → slice_get (values_of k s) index ≡ Some value → band.from ≤ℤ value → value ≤ℤ band.upto → slice_index levels index ≡ band.level
level_in_band k s ok levels same bands splits i band e index value there from upto =
    let within = slice_get_within (values_of k s) index value there in
    reached bands (zip (values_of k s) levels) splits
    (λ t u a b lt ea eb. values_rise k s ok t u a.0 b.0 lt (first_of (values_of k s) levels t a ea) (first_of (values_of k s) levels u b eb))
    i band e index (value, slice_index levels index) (mark_at (values_of k s) levels index value there (omega (arith, same, within))) from upto
