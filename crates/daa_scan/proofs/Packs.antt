-- The entries of a word.
use Rattle.std.proofs.Common.{◌≡◌, ◌↔◌, refl, sym, ap, subst, ◌∙◌, arith, ⊎_elim, ℕ, zero, suc, ◌+◌, ◌-◌, ◌*◌, ◌/◌, ◌%◌, ◌^◌, ◌<◌, ◌≤◌, length, div-one}
use Rattle.std.specs.Prelude.{slice_index}
use Rattle.std.proofs.lemmas.Bool.{cases_lt}
use Rattle.std.proofs.lemmas.Nat.{shr-shr, pow-add}
use Rattle.std.proofs.lemmas.Nat.Bits.{bit_at-zero}
use Rattle.std.proofs.lemmas.Option.{slice_get_within}
use Rattle.std.proofs.Math.Nat.{mod-lt, div-lt_iff_lt-mul, pow-le-pow_right}
use Rattle.daa_config.specs.Candidates.{candidates_of}
use Rattle.daa_fixed.specs.Mask.{IsMaskOf}
use Rattle.daa_config.specs.Packing.{group_size, place_width, presence_in, mask_in}
use Rattle.daa_config.specs.Settings.{Settings, IsAccepted}
use Rattle.daa_config.proofs.CandidateLemmas.{length_candidates, few_candidates}
use Rattle.daa_state.specs.InRange.{IsPictureInRange}
use Rattle.daa_state.specs.Picture.{aircraft_of}
use Rattle.daa_scan.specs.SceneState.{SceneState, MeetsAt}
use Rattle.daa_scan.specs.Units.{group_count, index_in, IsWordOf, AreWordsOf, IsWordOfUnit}
use Rattle.daa_scan.specs.Packed.{entry_at, packed_from, packed_word, at_least_one, word_of, values_from, words_of, places_in_reach}
use Rattle.daa_scan.proofs.Masking.{IsEntry, entry_there, entry_past}
use Rattle.daa_scan.proofs.Numbers.{are_in_reach, place_within}

-- ---- one entry more
pub packed-next : (f : ℕ → ℕ) (j n : ℕ) → packed_from f j (suc n) ≡ f j + 32 * packed_from f (suc j) n
unfolding packed_from
packed-next f j n = refl

pub packed-none : (f : ℕ → ℕ) (j : ℕ) → packed_from f j 0 ≡ 0
unfolding packed_from
packed-none f j = refl

-- the entries from j on, packed from the last to the first
pub record IsPackedFrom (f : ℕ → ℕ) (j word : ℕ) : Type 0 where
  pub within : j ≤ 12
  pub is : word ≡ packed_from f j (12 - j)
  pub small : word < 2 ^ (5 * (12 - j))

pub packed_start : (f : ℕ → ℕ) → IsPackedFrom f 12 0
packed_start f = record { within = omega arith; is = sym (packed-none f 12); small = omega arith }

-- one entry more has five bits more
room : (v e r q t : ℕ) → v ≡ e + 32 * r → e < 32 → r < q → t ≡ 2 ^ 5 * q → v < t
room v e r q t a b c d = omega (arith, a, b, c, d)

pub packed_step : (f : ℕ → ℕ) (j word e : ℕ) → 0 < j → IsPackedFrom f j word → e ≡ f (j - 1) → e < 32 → IsPackedFrom f (j - 1) (word * 32 % 2 ^ 64 + e)
packed_step f j word e some p is small =
    let longer : 12 - (j - 1) ≡ suc (12 - j) = omega (arith, some, p.within) in
    let back : suc (j - 1) ≡ j = omega (arith, some) in
    let five : 5 * (12 - (j - 1)) ≡ 5 + 5 * (12 - j) = omega (arith, longer) in
    let q : 2 ^ (5 + 5 * (12 - j)) ≡ 2 ^ 5 * 2 ^ (5 * (12 - j)) = pow-add 2 5 (5 * (12 - j)) in
    let eleven : 5 * (12 - j) ≤ 55 = omega (arith, some) in
    let two : 0 < 2 = omega arith in
    let most : 2 ^ (5 * (12 - j)) ≤ 2 ^ 55 = pow-le-pow_right two eleven in
    let b = p.small in
    let whole = kept word (2 ^ (5 * (12 - j))) e b most small in
    let next : packed_from f (j - 1) (12 - (j - 1)) ≡ e + 32 * packed_from f j (12 - j) =
    ap (packed_from f (j - 1)) longer ∙ packed-next f (j - 1) (12 - j) ∙ (λ i. sym is i + 32 * packed_from f (back i) (12 - j)) in
    record {
      within = omega (arith, p.within);
      is = whole ∙ ap (λ (x : ℕ). e + 32 * x) p.is ∙ sym next;
      small = subst (λ (x : ℕ). word * 32 % 2 ^ 64 + e < 2 ^ x) (sym five) (room (word * 32 % 2 ^ 64 + e) e word (2 ^ (5 * (12 - j))) (2 ^ (5 + 5 * (12 - j))) whole small b q);
    }
  where
    kept : (w q e : ℕ) → w < q → q ≤ 2 ^ 55 → e < 32 → w * 32 % 2 ^ 64 + e ≡ e + 32 * w
    kept w q e h k l = omega (arith, h, k, l)

-- ---- entries below 32
module _ (f : ℕ → ℕ) (small : (i : ℕ) → f i < 32) where
  pub packed-small : (j n : ℕ) → packed_from f j n < 2 ^ (5 * n)
  packed-small j zero = let z = packed-none f j in omega (arith, z)
  packed-small j (suc n) =
      let e = packed-next f j n in
      let h = packed-small (suc j) n in
      let s = small j in
      let five : 5 * suc n ≡ 5 + 5 * n = omega arith in
      let p : 2 ^ (5 + 5 * n) ≡ 2 ^ 5 * 2 ^ (5 * n) = pow-add 2 5 (5 * n) in
      subst (λ (x : ℕ). packed_from f j (suc n) < 2 ^ x) (sym five) (room (packed_from f j (suc n)) (f j) (packed_from f (suc j) n) (2 ^ (5 * n)) (2 ^ (5 + 5 * n)) e s h p)

  shifted : (j i m : ℕ) → packed_from f j (i + m) / 2 ^ (5 * i) ≡ packed_from f (j + i) m
  shifted j zero m =
      let e : j + 0 ≡ j = omega arith in
      let z : 0 + m ≡ m = omega arith in
      let n : 5 * 0 ≡ 0 = omega arith in
      (λ k. packed_from f j (z k) / 2 ^ (n k)) ∙ div-one (packed_from f j m) ∙ ap (λ (x : ℕ). packed_from f x m) (sym e)
  shifted j (suc i) m =
      let five : 5 * suc i ≡ 5 + 5 * i = omega arith in
      let step : suc i + m ≡ suc (i + m) = omega arith in
      let later : suc j + i ≡ j + suc i = omega arith in
      let s = small j in
      (λ k. packed_from f j (step k) / 2 ^ (five k))
      ∙ sym (shr-shr (packed_from f j (suc (i + m))) 5 (5 * i))
      ∙ ap (λ (x : ℕ). x / 2 ^ (5 * i)) (ap (λ (x : ℕ). x / 2 ^ 5) (packed-next f j (i + m)) ∙ dropped (f j) (packed_from f (suc j) (i + m)) s)
      ∙ shifted (suc j) i m
      ∙ ap (λ (x : ℕ). packed_from f x m) later
    where
      dropped : (e r : ℕ) → e < 32 → (e + 32 * r) / 2 ^ 5 ≡ r
      dropped e r h = omega (arith, h)

  -- entry i of n, and what lies above it
  record IsEntryOf (w i : ℕ) : Type 0 where
    above : ℕ
    is : w / 2 ^ (5 * i) ≡ f i + 32 * above

  entry_of : (n i : ℕ) → i < n → IsEntryOf (packed_from f 0 n) i
  entry_of n i h =
      let split : i + suc (n - i - 1) ≡ n = omega (arith, h) in
      let none : 0 + i ≡ i = omega arith in
      record {
        above = packed_from f (suc i) (n - i - 1);
        is = ap (λ (x : ℕ). packed_from f 0 x / 2 ^ (5 * i)) (sym split) ∙ shifted 0 i (suc (n - i - 1)) ∙ ap (λ (x : ℕ). packed_from f x (suc (n - i - 1))) none ∙ packed-next f i (n - i - 1);
      }

  pub presence_is : (n i : ℕ) → i < n → presence_in (packed_from f 0 n) i ≡ f i % 2
  presence_is n i h = let e = entry_of n i h in ap (λ (x : ℕ). x % 2) e.is ∙ even (f i) e.above
    where
      even : (e r : ℕ) → (e + 32 * r) % 2 ≡ e % 2
      even e r = omega arith

  pub mask_in_is : (n i : ℕ) → i < n → mask_in (packed_from f 0 n) i ≡ f i / 2
  mask_in_is n i h =
      let e = entry_of n i h in
      let s = small i in
      ap (λ (x : ℕ). x % 2 ^ 4) (sym (shr-shr (packed_from f 0 n) (5 * i) 1) ∙ ap (λ (x : ℕ). x / 2 ^ 1) e.is) ∙ halved (f i) e.above s
    where
      halved : (e r : ℕ) → e < 32 → (e + 32 * r) / 2 ^ 1 % 2 ^ 4 ≡ e / 2
      halved e r h = omega (arith, h)

-- ---- the word of a group and an aircraft
module _ (s : SceneState) (a : IsAccepted s.settings) (p : IsPictureInRange s.picture) (at : ℕ) (here : at < length (aircraft_of s.picture)) where
  pub entry_small : (index : ℕ) → entry_at s at index < 32
  entry_small index = ⊎_elim
      (λ l. let e = entry_there s a p at index l here in let is = e.is in let small = e.small in omega (arith, is, small))
      (λ g. let e = entry_past s at index g in omega (arith, e))
      (cases_lt index (length (candidates_of s.settings)))

  module _ (group : ℕ) (inside : group < group_count s.settings) where
    f : ℕ → ℕ
    f j = entry_at s at (index_in group j)

    f_small : (j : ℕ) → f j < 32
    unfolding f
    f_small j = entry_small (index_in group j)

    there : (j : ℕ) → index_in group j < length (candidates_of s.settings) → IsEntry s a p at (index_in group j) (f j)
    unfolding f
    there j l = entry_there s a p at (index_in group j) l here

    past : (j : ℕ) → length (candidates_of s.settings) ≤ index_in group j → f j ≡ 0
    unfolding f
    past j g = entry_past s at (index_in group j) g

    word : ℕ
    word = packed_from f 0 group_size

    word_is : word ≡ packed_word s at group
    unfolding packed_word word f
    word_is = refl

    some : 1 ≤ word
    unfolding word
    some =
        let first : index_in group 0 < length (candidates_of s.settings) = omega (arith, inside) in
        let e = there 0 first in
        let is = e.is in
        let n = packed-next f 0 11 in omega (arith, is, n)

    kept : (n : ℕ) → 1 ≤ n → at_least_one n ≡ n
    kept zero h = absurd (omega (arith, h))
    kept (suc n) h = refl

    mask_right : (j : ℕ) → j < group_size → IsMaskOf (MeetsAt s (index_in group j) at) (length s.settings.levels) (mask_in word j)
    unfolding word
    mask_right j h = ⊎_elim
        (λ l. let e = there j l in
        let is = e.is in
        let half : f j / 2 ≡ e.mask = omega (arith, is) in
        subst (λ (m : ℕ). IsMaskOf (MeetsAt s (index_in group j) at) (length s.settings.levels) m) (sym (mask_in_is f f_small group_size j h ∙ half)) e.met)
        (λ g. let z = past j g in
        let none : f j / 2 ≡ 0 = omega (arith, z) in
        subst (λ (m : ℕ). IsMaskOf (MeetsAt s (index_in group j) at) (length s.settings.levels) m) (sym (mask_in_is f f_small group_size j h ∙ none)) (empty j g))
        (cases_lt (index_in group j) (length (candidates_of s.settings)))
      where
        empty : (j : ℕ) → length (candidates_of s.settings) ≤ index_in group j → IsMaskOf (MeetsAt s (index_in group j) at) (length s.settings.levels) 0
        empty j g = record {
          each = λ l one upto. (
            (λ e. let z = bit_at-zero (l - 1) in absurd (omega (arith, e, z))),
            (λ m. let w = slice_get_within (candidates_of s.settings) (index_in group j) m.candidate m.listed in absurd (omega (arith, w, g))),
          );
          none_above = λ l over e. let z = bit_at-zero (l - 1) in absurd (omega (arith, e, z));
        }

    present_right : (j : ℕ) → j < group_size → presence_in word j ≡ 1 ↔ index_in group j < length (candidates_of s.settings)
    unfolding word
    present_right j h =
        let q = presence_is f f_small group_size j h in (
          (λ e. ⊎_elim (λ l. l) (λ g. let z = past j g in absurd (omega (arith, z, q, e))) (cases_lt (index_in group j) (length (candidates_of s.settings)))),
          (λ l. let e = there j l in let is = e.is in let odd : f j % 2 ≡ 1 = omega (arith, is) in q ∙ odd),
        )

    rest_right : word < 2 ^ (place_width * group_size)
    unfolding word
    rest_right = packed-small f f_small 0 group_size

    pub is_word : IsWordOf s at group (at_least_one (packed_word s at group))
    is_word =
        let e : word ≡ at_least_one (packed_word s at group) = sym (kept word some) ∙ ap at_least_one word_is in
        subst (λ (w : ℕ). IsWordOf s at group w) e (record { present = present_right; masks = mask_right; rest = rest_right })

    pub word_kept : at_least_one (packed_word s at group) ≡ packed_word s at group
    word_kept = kept (packed_word s at group) (subst (λ (w : ℕ). 1 ≤ w) word_is some)

-- ---- all words
pub length-values : (f : ℕ → ℕ) (i n : ℕ) → length (values_from f i n) ≡ n
unfolding values_from
length-values f i zero = refl
length-values f i (suc n) = ap suc (length-values f (suc i) n)

pub value_at : (f : ℕ → ℕ) (i n k : ℕ) → k < n → slice_index (values_from f i n) k ≡ f (i + k)
unfolding values_from
value_at f i zero k h = absurd (omega (arith, h))
value_at f i (suc n) zero h = let e : i ≡ i + 0 = omega arith in ap f e
value_at f i (suc n) (suc k) h = let e : suc i + k ≡ i + suc k = omega arith in value_at f (suc i) n k (omega (arith, h)) ∙ ap f e

pub some_group : (settings : Settings) → 1 ≤ group_count settings
some_group settings = let l = length_candidates settings in omega (arith, l)

pub word_at : (s : SceneState) (unit : ℕ) → unit < group_count s.settings * length (places_in_reach s) → slice_index (words_of s) unit ≡ word_of s unit
unfolding words_of
word_at s unit h =
    let e : 0 + unit ≡ unit = omega arith in value_at (word_of s) 0 (group_count s.settings * length (places_in_reach s)) unit h ∙ ap (word_of s) e

pub word_shown : (s : SceneState) (unit : ℕ) → word_of s unit ≡ at_least_one (packed_word s (slice_index (places_in_reach s) (unit / group_count s.settings)) (unit % group_count s.settings))
unfolding word_of
word_shown s unit = refl

pub words_count : (s : SceneState) → length (words_of s) ≡ group_count s.settings * length (places_in_reach s)
unfolding words_of
words_count s = length-values (word_of s) 0 (group_count s.settings * length (places_in_reach s))

pub unit_place : (s : SceneState) (unit : ℕ) → unit < group_count s.settings * length (places_in_reach s) → unit / group_count s.settings < length (places_in_reach s)
unit_place s unit h =
    let g = some_group s.settings in
    let e : group_count s.settings * length (places_in_reach s) ≡ length (places_in_reach s) * group_count s.settings = omega arith in
    (div-lt_iff_lt-mul (omega (arith, g))).1 (subst (λ (n : ℕ). unit < n) e h)

pub unit_group : (s : SceneState) (unit : ℕ) → unit % group_count s.settings < group_count s.settings
unit_group s unit = let g = some_group s.settings in mod-lt unit (omega (arith, g))

pub are_words : (s : SceneState) → IsAccepted s.settings → IsPictureInRange s.picture → AreWordsOf s (words_of s)
are_words s a p = record {
  places = places_in_reach s;
  in_reach = are_in_reach s;
  count = words_count s;
  each = λ unit h.
      let l : unit < group_count s.settings * length (places_in_reach s) = subst (λ (n : ℕ). unit < n) (words_count s) h in
      let i = unit_place s unit l in
      subst (λ (w : ℕ). IsWordOf s (slice_index (places_in_reach s) (unit / group_count s.settings)) (unit % group_count s.settings) w) (sym (word_at s unit l ∙ word_shown s unit))
      (is_word s a p (slice_index (places_in_reach s) (unit / group_count s.settings)) (place_within s (unit / group_count s.settings) i) (unit % group_count s.settings) (unit_group s unit));
}

pub few_groups : (settings : Settings) → IsAccepted settings → group_count settings ≤ 159
few_groups settings a = let l = few_candidates settings a in omega (arith, l)

-- the word of a unit
pub word_found : (s : SceneState) → IsAccepted s.settings → IsPictureInRange s.picture → (unit at group : ℕ) → unit < length (words_of s)
    → at ≡ slice_index (places_in_reach s) (unit / group_count s.settings) → group ≡ unit % group_count s.settings
    → packed_word s at group ≡ slice_index (words_of s) unit
word_found s a p unit at group h ea eg =
    let l : unit < group_count s.settings * length (places_in_reach s) = subst (λ (n : ℕ). unit < n) (words_count s) h in
    let i = unit_place s unit l in
    let here : at < length (aircraft_of s.picture) = subst (λ (n : ℕ). n < length (aircraft_of s.picture)) (sym ea) (place_within s (unit / group_count s.settings) i) in
    let inside : group < group_count s.settings = subst (λ (n : ℕ). n < group_count s.settings) (sym eg) (unit_group s unit) in
    sym (word_kept s a p at here group inside) ∙ (λ i. at_least_one (packed_word s (ea i) (eg i))) ∙ sym (word_at s unit l ∙ word_shown s unit)

-- the same, told by the list and by the field
pub word_told : (own s : SceneState) → own ≡ s → IsAccepted own.settings → IsPictureInRange own.picture → (groups unit at word : ℕ) → groups ≡ group_count own.settings
    → unit < length (words_of s) → at ≡ slice_index (places_in_reach s) (unit / groups) → word ≡ packed_word s at (unit % groups)
    → (word ≡ slice_index (words_of s) unit) × IsWordOfUnit s unit word
word_told own s same a p groups unit at word counted h ea ew =
    let a' : IsAccepted s.settings = subst (λ (t : SceneState). IsAccepted t.settings) same a in
    let p' : IsPictureInRange s.picture = subst (λ (t : SceneState). IsPictureInRange t.picture) same p in
    let g : groups ≡ group_count s.settings = counted ∙ ap (λ (t : SceneState). group_count t.settings) same in
    let e : word ≡ slice_index (words_of s) unit = ew ∙ word_found s a' p' unit at (unit % groups) h (ea ∙ ap (λ (n : ℕ). slice_index (places_in_reach s) (unit / n)) g) (ap (λ (n : ℕ). unit % n) g) in
    let l : unit < group_count s.settings * length (places_in_reach s) = subst (λ (n : ℕ). unit < n) (words_count s) h in
    let i = unit_place s unit l in
    let listed : IsWordOf s (slice_index (places_in_reach s) (unit / group_count s.settings)) (unit % group_count s.settings) (slice_index (words_of s) unit) =
    subst (λ (v : ℕ). IsWordOf s (slice_index (places_in_reach s) (unit / group_count s.settings)) (unit % group_count s.settings) v) (sym (word_at s unit l ∙ word_shown s unit))
    (is_word s a' p' (slice_index (places_in_reach s) (unit / group_count s.settings)) (place_within s (unit / group_count s.settings) i) (unit % group_count s.settings) (unit_group s unit)) in (
      e,
      record {
        places = places_in_reach s;
        in_reach = are_in_reach s;
        there = i;
        is = subst (λ (v : ℕ). IsWordOf s (slice_index (places_in_reach s) (unit / group_count s.settings)) (unit % group_count s.settings) v) (sym e) listed;
      },
    )
