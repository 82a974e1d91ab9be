-- A board that is filled from the words of the units.
use Rattle.std.proofs.Common.{below_more, ◌≡◌, ◌<◌, ◌≤◌, ◌+◌, ◌-◌, ◌*◌, ◌/◌, ◌%◌, ◌⊎◌, ◌∙◌, ℕ, List, length, replicate, sym, ap, subst, arith, inl, inr, ⊎_elim}
use Rattle.std.specs.Prelude.{slice_index}
use Rattle.std.proofs.lemmas.Bool.{cases_lt}
use Rattle.std.proofs.lemmas.List.{get_or_default}
use Rattle.std.proofs.lemmas.Nat.{div-mul-add, mod-mul-add}
use Rattle.std.proofs.lemmas.Option.{slice_get_within}
use Rattle.daa_config.specs.Candidates.{candidates_of}
use Rattle.daa_fixed.specs.Mask.{HasLevel, IsMaskOf}
use Rattle.daa_config.specs.Packing.{group_size, mask_in}
use Rattle.daa_bands.specs.Board.{HasLevelOn, IsBoardOf, AddsWord}
use Rattle.daa_scan.specs.SceneState.{SceneState, MeetsAt}
use Rattle.daa_scan.specs.Reach.{NoneIsMetOutOfReach}
use Rattle.daa_scan.specs.Units.{group_count, AreWordsOf}
use Rattle.daa_engine.specs.Covered.{CoveredAt}
use Rattle.daa_engine.specs.Inside.Merging.{SaysLevel, IsMerged}
use Rattle.daa_engine.proofs.LevelLemmas.{either, left, right, along, nothing_set}

-- ---- one word more

-- the index is in the group that begins at a base, or it is not
record IsIn (base index : ℕ) : Type 0 where
  place : ℕ
  inside : place < 12
  is : index ≡ base + place

in_or_out : (base index : ℕ) → ((index < base) ⊎ (base + 12 ≤ index)) ⊎ IsIn base index
in_or_out base index = ⊎_elim
    (λ h. inl (inl h))
    (λ h. ⊎_elim
    (λ k. inr (record { place = index - base; inside = omega (arith, h, k); is = omega (arith, h) }))
    (λ k. inl (inr k))
    (cases_lt index (base + 12)))
    (cases_lt index base)

module _ (groups : ℕ) (words : List ℕ) where
  pub merged_none : (n : ℕ) → IsMerged groups words 0 (replicate n 0)
  merged_none n index l = ((λ h. absurd (nothing_set n index l h)), (λ s. absurd (let b = s.before in omega arith)))

  later : (n index l : ℕ) → SaysLevel groups words n index l → SaysLevel groups words (n + 1) index l
  later n index l s = record { unit = s.unit; place = s.place; before = (let b = s.before in omega arith); inside = s.inside; at = s.at; level = s.level }

  module _ (n : ℕ) (old new : List ℕ) (merged : IsMerged groups words n old) (adds : AddsWord (n % groups) (slice_index words n) old new) where
    kept : (index l : ℕ) → HasLevelOn old index l → HasLevelOn new index l
    kept index l h = ⊎_elim
        (λ out. along _ _ l (sym (adds.outside index out)) h)
        (λ x. let is = x.is in
        subst (λ (i : ℕ). HasLevelOn new i l) (sym is)
        (along _ _ l (sym (adds.inside x.place x.inside)) (left _ _ l (subst (λ (i : ℕ). HasLevelOn old i l) is h))))
        (in_or_out (group_size * (n % groups)) index)

    said : (index l : ℕ) → HasLevelOn new index l → SaysLevel groups words (n + 1) index l
    said index l h = ⊎_elim
        (λ out. later n index l ((merged index l).0 (along _ _ l (adds.outside index out) h)))
        (λ x. let is = x.is in ⊎_elim
        (λ k. later n index l ((merged index l).0 (subst (λ (i : ℕ). HasLevelOn old i l) (sym is) k)))
        (λ k. record { unit = n; place = x.place; before = omega arith; inside = x.inside; at = is; level = k })
        (either _ _ l (along _ _ l (adds.inside x.place x.inside) (subst (λ (i : ℕ). HasLevelOn new i l) is h))))
        (in_or_out (group_size * (n % groups)) index)

    shown : (index l : ℕ) → SaysLevel groups words (n + 1) index l → HasLevelOn new index l
    shown index l s =
        below_more (λ (u : ℕ). index ≡ group_size * (u % groups) + s.place → HasLevel (mask_in (slice_index words u) s.place) l → HasLevelOn new index l) n
        (λ u before at level. kept index l ((merged index l).1 (record { unit = u; place = s.place; before = before; inside = s.inside; at = at; level = level })))
        (λ at level. subst (λ (i : ℕ). HasLevelOn new i l) (sym at) (along _ _ l (sym (adds.inside s.place s.inside)) (right _ _ l level)))
        s.unit s.before s.at s.level

    pub merged_more : IsMerged groups words (n + 1) new
    merged_more index l = (said index l, shown index l)

-- ---- all words

module _ (s : SceneState) (words board : List ℕ) (are : AreWordsOf s words) (reach : NoneIsMetOutOfReach s)
    (merged : IsMerged (group_count s.settings) words (length words) board) where
  -- what a word says is so
  mask_of : (index l : ℕ) (x : SaysLevel (group_count s.settings) words (length words) index l)
      → (at : ℕ) × IsMaskOf (MeetsAt s index at) (length s.settings.levels) (mask_in (slice_index words x.unit) x.place)
  mask_of index l x =
      let w = are.each x.unit x.before in (
        slice_index are.places (x.unit / group_count s.settings),
        subst (λ (i : ℕ). IsMaskOf (MeetsAt s i (slice_index are.places (x.unit / group_count s.settings))) (length s.settings.levels) (mask_in (slice_index words x.unit) x.place)) (sym x.at)
            (w.masks x.place x.inside),
      )

  covered : (index l : ℕ) → 1 ≤ l → l ≤ length s.settings.levels → HasLevelOn board index l → CoveredAt s.settings s.picture index l
  covered index l low high h =
      let x = (merged index l).0 h in
      let m = mask_of index l x in
      (m.0, (m.1.each l low high).0 x.level)

  none_above : (index l : ℕ) → length s.settings.levels < l → HasLevelOn board index l → ⊥
  none_above index l high h = let x = (merged index l).0 h in (mask_of index l x).1.none_above l high x.level

  none_past : (index l : ℕ) → length (candidates_of s.settings) ≤ index → 1 ≤ l → HasLevelOn board index l → ⊥
  none_past index l past low h = ⊎_elim
      (λ high. none_above index l high h)
      (λ high. let c = (covered index l low high h).1 in let w = slice_get_within (candidates_of s.settings) index c.candidate c.listed in omega (arith, past, w))
      (cases_lt (length s.settings.levels) l)

  -- what is so some word says
  module _ (index l at : ℕ) (low : 1 ≤ l) (high : l ≤ length s.settings.levels) (meets : MeetsAt s index at l) where
    inside : index / 12 < group_count s.settings
    inside = let w = slice_get_within (candidates_of s.settings) index meets.candidate meets.listed in omega (arith, w)

    met_in_word : (k : ℕ) → k < length are.places → slice_index are.places k ≡ at → HasLevelOn board index l
    met_in_word k short is =
        let count = are.count in
        let before : k * group_count s.settings + index / 12 < length words = room k (length are.places) (group_count s.settings) (index / 12) (length words) short inside count in
        let quotient : (k * group_count s.settings + index / 12) / group_count s.settings ≡ k = div-mul-add k (group_count s.settings) (index / 12) inside in
        let rest : (k * group_count s.settings + index / 12) % group_count s.settings ≡ index / 12 = mod-mul-add k (group_count s.settings) (index / 12) inside in
        let w = are.each (k * group_count s.settings + index / 12) before in
        let there : slice_index are.places ((k * group_count s.settings + index / 12) / group_count s.settings) ≡ at = ap (slice_index are.places) quotient ∙ is in
        let whole : index ≡ group_size * ((k * group_count s.settings + index / 12) % group_count s.settings) + index % 12 = twelve index ∙ ap (λ (i : ℕ). 12 * i + index % 12) (sym rest) in
        (merged index l).1 (record {
          unit = k * group_count s.settings + index / 12;
          place = index % 12;
          before = before;
          inside = omega arith;
          at = whole;
          level = ((w.masks (index % 12) (omega arith)).each l low high).1
              (subst
              (λ (i : ℕ). MeetsAt s i
              (slice_index are.places ((k * group_count s.settings + index / 12) / group_count s.settings)) l)
              whole
              (subst (λ (a : ℕ). MeetsAt s index a l) (sym there) meets));
        })
      where
        room : (k n g r t : ℕ) → k < n → r < g → t ≡ g * n → k * g + r < t
        room k n g r t h i e = grind arith

        twelve : (i : ℕ) → i ≡ 12 * (i / 12) + i % 12
        twelve i = omega arith

    met_is_on : HasLevelOn board index l
    met_is_on =
        let c = are.in_reach.every at (reach index at l meets) in
        met_in_word c.0 c.1 (get_or_default are.places c.0 0 at c.1 ∙ c.2)

  pub merged_board : IsBoardOf (CoveredAt s.settings s.picture) s.settings board
  merged_board = record {
    each = λ index l in' low high. ((λ h. covered index l low high h), (λ x. met_is_on index l x.0 low high x.1));
    no_level_above = none_above;
    no_candidate_past = none_past;
  }
