-- The bands that a walk over the values of a kind finds.
use Rattle.std.proofs.Common.{◌≡◌, ◌≢◌, ◌<◌, ◌≤◌, ◌+◌, ◌-◌, ◌∙◌, ◌==◌, ℕ, zero, suc, Bool, true, false, List, [], ◌∷◌}
use Rattle.std.proofs.Common.{length, drop, Some, refl, sym, ap, subst, arith, rules, w32, FitsSigned, to_z, of_z}
use Rattle.std.proofs.lemmas.Int.{to_z-of_z}
use Rattle.std.specs.Prelude.{ℤ, slice_get, slice_index, if◌then◌else◌}
use Rattle.std.specs.List.{zip}
use Rattle.std.specs.Iterator.{MakesProgress, item_count}
use Rattle.std.proofs.lemmas.List.{drop-drop, drop_more, drop_all, length-drop}
use Rattle.std.proofs.lemmas.Bool.Decides.{nat_tests}
use Rattle.std.proofs.lemmas.Option.{get_or_from_slice_get}
use Rattle.daa_config.specs.Settings.{Settings}
use Rattle.daa_config.specs.Candidates.{values_of, start_of}
use Rattle.daa_config.specs.declared.kind.Kind.{Kind}
use Rattle.daa_bands.specs.declared.band.Band.{Band}
use Rattle.daa_bands.specs.Walk.{Mark, shown_of, with_mark, bands_of, marks_from, bands_left}
use Rattle.daa_fixed.specs.Mask.{HasLevel, IsGreatestLevel}
use Rattle.daa_bands.specs.Band.{AreBands}
use Rattle.daa_bands.specs.Board.{HasLevelOn, mask_levels}
use Rattle.daa_fixed.specs.One.{HasOne}
use Rattle.daa_bands.specs.KindBands.{AreKindBands}
use Rattle.daa_bands.proofs.BandLemmas.{DiffersFromFirst, with_mark_same, with_mark_new, found}
use Rattle.daa_bands.proofs.KindLemmas.{kind_bands_only}
use Rattle.daa_bands.proofs.MaskLemmas.{greatest_shown}

abbrev band : ℤ → ℤ → ℕ → Band
band from upto level = record { from = from; upto = upto; level = level }

-- the first of some bands of marks has the level of the first mark
first_level : (mark : Mark) (bands : List Band) (b : Band) → b.level ≢ mark.1 → DiffersFromFirst b (with_mark mark bands)
unfolding with_mark
first_level mark [] b h = h
first_level mark (x ∷ bands) b h = go (x.level == mark.1) refl
  where
    go : (t : Bool) → (x.level == mark.1) ≡ t → DiffersFromFirst b (if t then record { from = mark.0; upto = x.upto; level = x.level } ∷ bands else band mark.0 mark.0 mark.1 ∷ x ∷ bands)
    go true e = let l : x.level ≡ mark.1 = grind (arith, nat_tests) in λ k. h (k ∙ l)
    go false e = h

module _ (board : List ℕ) where
  abbrev shown_at : ℕ → ℕ
  shown_at index = shown_of (slice_index board index)

  next_differs : (index : ℕ) (value : ℤ) (values : List ℤ) (level : ℕ) → (0 < length values → shown_at (index + 1) ≢ level)
      → DiffersFromFirst (band value value level) (bands_of (marks_from board (index + 1) values))
  unfolding bands_of marks_from
  next_differs index value [] level h = tt
  next_differs index value (v ∷ vs) level h =
      first_level (v, shown_at (index + 1)) (bands_of (marks_from board (index + 1 + 1) vs)) (band value value level)
      (λ e. h (omega arith) (sym e))

  pub walk : (n : ℕ) (index : ℕ) (value : ℤ) (values : List ℤ) (upto : ℤ) (level : ℕ)
      → slice_get (value ∷ values) n ≡ Some upto
      → ((i : ℕ) → i ≤ n → shown_at (index + i) ≡ level)
      → (n < length values → shown_at (index + n + 1) ≢ level)
      → bands_of (marks_from board index (value ∷ values)) ≡ band value upto level ∷ bands_of (marks_from board (index + n + 1) (drop n values))
  unfolding bands_of marks_from
  walk zero index value values upto level get same other =
      let l : shown_at index ≡ level = subst (λ (i : ℕ). shown_at i ≡ level) (omega arith) (same 0 (omega arith)) in
      let u : value ≡ upto = cc in
      let i : index + 0 + 1 ≡ index + 1 = omega arith in
      ap (λ (x : ℕ). with_mark (value, x) (bands_of (marks_from board (index + 1) values))) l
      ∙ with_mark_new (value, level) (bands_of (marks_from board (index + 1) values))
      (next_differs index value values level (λ h. subst (λ (j : ℕ). shown_at j ≢ level) i (other h)))
      ∙ ap (λ (z : ℤ). band value z level ∷ bands_of (marks_from board (index + 1) values)) u
      ∙ ap (λ (j : ℕ). band value upto level ∷ bands_of (marks_from board j values)) (sym i)
  walk (suc n) index value [] upto level get same other = cc
  walk (suc n) index value (v ∷ vs) upto level get same other =
      let l : shown_at index ≡ level = subst (λ (i : ℕ). shown_at i ≡ level) (omega arith) (same 0 (omega arith)) in
      let i : index + 1 + n + 1 ≡ index + suc n + 1 = omega arith in
      let ih = walk n (index + 1) v vs upto level get
      (λ k h. let e : index + suc k ≡ index + 1 + k = omega arith in subst (λ (j : ℕ). shown_at j ≡ level) e (same (suc k) (omega arith)))
      (λ h. subst (λ (j : ℕ). shown_at j ≢ level) (sym i) (other (omega arith))) in
      ap (λ (x : ℕ). with_mark (value, x) (bands_of (marks_from board (index + 1) (v ∷ vs)))) l
      ∙ ap (with_mark (value, level)) ih
      ∙ with_mark_same (value, level) (band v upto level) (bands_of (marks_from board (index + 1 + n + 1) (drop n vs))) refl
      ∙ ap (λ (j : ℕ). band value upto level ∷ bands_of (marks_from board j (drop n vs))) i

get_drop : (n i : ℕ) (xs : List ℤ) → slice_get (drop n xs) i ≡ slice_get xs (n + i)
get_drop zero i xs = ap (slice_get xs) (omega arith)
get_drop (suc n) i [] = refl
get_drop (suc n) i (x ∷ xs) = let e : suc n + i ≡ suc (n + i) = omega arith in get_drop n i xs ∙ ap (slice_get (x ∷ xs)) (sym e)

-- the first band from an index on, and the others
pub first_band : (board : List ℕ) (s : Settings) (kind : Kind) (start at last count : ℕ) (value upto : ℤ) (level : ℕ)
    → start ≡ start_of kind s → count ≡ length (values_of kind s)
    → slice_get (values_of kind s) at ≡ Some value → slice_get (values_of kind s) last ≡ Some upto
    → at ≤ last → last < count
    → ((i : ℕ) → at ≤ i → i ≤ last → shown_of (slice_index board (start + i)) ≡ level)
    → (last + 1 < count → shown_of (slice_index board (start + last + 1)) ≢ level)
    → bands_left board s kind at ≡ record { from = value; upto = upto; level = level } ∷ bands_left board s kind (last + 1)
unfolding bands_left
first_band board s kind start at last count value upto level start_is count_is get_at get_last order within same other =
    let values = values_of kind s in
    let within' : last < length values = omega arith in
    let rest = drop (at + 1) values in
    let d : drop at values ≡ value ∷ rest =
    drop_more values at value (omega arith) ∙ ap (λ (z : ℤ). z ∷ rest) (get_or_from_slice_get values at value value get_at) in
    let n : ℕ = last - at in
    let g : slice_get (value ∷ rest) n ≡ Some upto =
    ap (λ (zs : List ℤ). slice_get zs n) (sym d) ∙ get_drop at n values ∙ ap (slice_get values) (omega arith) ∙ get_last in
    let e : start + at + n + 1 ≡ start + (last + 1) = omega arith in
    let f : drop n rest ≡ drop (last + 1) values = drop-drop n (at + 1) values ∙ ap (λ (m : ℕ). drop m values) (omega arith) in
    let w = walk board n (start + at) value rest upto level g
    (λ i h. subst (λ (j : ℕ). shown_of (slice_index board j) ≡ level) (omega arith) (same (at + i) (omega arith) (omega arith)))
    (λ h. let l = length-drop (at + 1) values in
    subst (λ (j : ℕ). shown_of (slice_index board j) ≢ level) (omega arith) (other (omega arith))) in
    ap (λ (j : ℕ). bands_of (marks_from board (j + at) (drop at values))) (sym start_is)
    ∙ ap (λ (zs : List ℤ). bands_of (marks_from board (start + at) zs)) d
    ∙ w
    ∙ ap (λ (j : ℕ). band value upto level ∷ bands_of (marks_from board j (drop n rest))) e
    ∙ ap (λ (zs : List ℤ). band value upto level ∷ bands_of (marks_from board (start + (last + 1)) zs)) f
    ∙ ap (λ (j : ℕ). band value upto level ∷ bands_of (marks_from board (j + (last + 1)) (drop (last + 1) values))) start_is

-- past the last index there is none
pub no_band : (board : List ℕ) (s : Settings) (kind : Kind) (at count : ℕ) → count ≡ length (values_of kind s) → count ≤ at → bands_left board s kind at ≡ []
unfolding bands_left bands_of marks_from
no_band board s kind at count e h = ap (λ (zs : List ℤ). bands_of (marks_from board (start_of kind s + at) zs)) (drop_all at (values_of kind s) (omega arith))

-- ---- all bands of a kind

levels_from : List ℕ → ℕ → List ℤ → List ℕ
levels_from board index [] = []
levels_from board index (value ∷ values) = shown_of (slice_index board index) ∷ levels_from board (index + 1) values

length-levels : (board : List ℕ) (index : ℕ) (values : List ℤ) → length (levels_from board index values) ≡ length values
unfolding levels_from
length-levels board index [] = refl
length-levels board index (value ∷ values) = ap suc (length-levels board (index + 1) values)

level_at : (board : List ℕ) (index : ℕ) (values : List ℤ) (i : ℕ) → i < length (levels_from board index values)
    → slice_index (levels_from board index values) i ≡ shown_of (slice_index board (index + i))
unfolding levels_from
level_at board index [] i h = absurd (omega arith)
level_at board index (value ∷ values) zero h = ap (λ (j : ℕ). shown_of (slice_index board j)) (omega arith)
level_at board index (value ∷ values) (suc i) h =
    level_at board (index + 1) values i (omega arith) ∙ ap (λ (j : ℕ). shown_of (slice_index board j)) (omega arith)

zip_levels : (board : List ℕ) (index : ℕ) (values : List ℤ) → zip values (levels_from board index values) ≡ marks_from board index values
unfolding levels_from marks_from
zip_levels board index [] = refl
zip_levels board index (value ∷ values) = ap (λ (ms : List Mark). (value, shown_of (slice_index board index)) ∷ ms) (zip_levels board (index + 1) values)

pub all_bands : (board : List ℕ) (s : Settings) (kind : Kind) → AreKindBands (HasLevelOn board) mask_levels s kind (bands_left board s kind 0)
unfolding bands_left
all_bands board s kind =
    let values = values_of kind s in let start = start_of kind s in let levels = levels_from board start values in
    let z : start + 0 ≡ start = omega arith in
    record {
      levels = levels;
      shown = record {
        each = length-levels board start values;
        greatest = λ i h. subst (IsGreatestLevel (HasLevel (slice_index board (start + i))) mask_levels) (sym (level_at board start values i h))
            (greatest_shown (slice_index board (start + i)));
      };
      are = subst (λ (j : ℕ). AreBands (zip values levels) (bands_of (marks_from board j values))) (sym z)
          (subst (λ (ms : List Mark). AreBands ms (bands_of (marks_from board start values))) (sym (zip_levels board start values)) (found (marks_from board start values)));
    }

pub one_kind_list : (board : List ℕ) (s : Settings) (kind : Kind) → HasOne (AreKindBands (HasLevelOn board) mask_levels s kind)
one_kind_list board s kind = record {
  one = bands_left board s kind 0;
  is = all_bands board s kind;
  only = λ others h. kind_bands_only (HasLevelOn board) mask_levels s kind others (bands_left board s kind 0) h (all_bands board s kind);
}

-- a list that loses its first item goes on
pub goes : (old new : List Band) (b : Band) → old ≡ b ∷ new
    → MakesProgress (λ (bs : List Band). Unit {0}) (item_count {A = Band} (λ (bs : List Band). bs)) old (Some b) new
goes old new b e = rw e (search rules)

-- numbers that fit come back from a struct as they are
pub kept_band : (from upto : ℤ) (level : ℕ) (rest : List Band) → FitsSigned w32 from → FitsSigned w32 upto
    → band from upto level ∷ rest ≡ band (to_z w32 (of_z w32 from)) (to_z w32 (of_z w32 upto)) level ∷ rest
kept_band from upto level rest f g = rw (to_z-of_z w32 from f, to_z-of_z w32 upto g) refl
