-- Masks that are joined, and pictures that are put together.
use Rattle.std.proofs.Common.{◌≡◌, ◌<◌, ◌≤◌, ◌+◌, ◌-◌, ◌^◌, ◌⊎◌, ◌∙◌, ◌++◌, ℕ, List, length, bit_or, Some, refl, ap, sym, subst, arith, inl, inr, below_more, get_or}
use Rattle.std.specs.Prelude.{slice_index, slice_get}
use Rattle.std.specs.Int.Bits.{or_zero_r}
use Rattle.std.proofs.lemmas.Bool.{cases_lt}
use Rattle.std.proofs.lemmas.List.{get_or_append_left, get_or-append-add, get_or_past, length-append}
use Rattle.std.proofs.lemmas.Nat.{or_lt}
use Rattle.std.proofs.lemmas.Option.{slice_get-get_or, slice_get_within, get_or_from_slice_get}
use Rattle.daa_bands.specs.Board.{AddsMask, HasLevelOn, IsBoardOf}
use Rattle.daa_config.specs.Candidates.{candidates_of}
use Rattle.daa_config.specs.Settings.{Settings}
use Rattle.daa_engine.specs.Covered.{CoveredAt}
use Rattle.daa_engine.proofs.LevelLemmas.{either, left, right, along}
use Rattle.daa_legs.specs.Meeting.{Meets}
use Rattle.daa_state.specs.Picture.{aircraft_of}
use Rattle.daa_state.specs.declared.word.Own.{Own}
use Rattle.daa_state.specs.declared.word.Picture.{Picture}
use Rattle.daa_state.specs.declared.word.Traffic.{Traffic}
use Rattle.daa_numbers.specs.Boards.{AreJoined, AreMasksWithin, greatest_mask}
use Rattle.daa_numbers.specs.Both.{IsOfBoth}
use Rattle.daa_numbers.proofs.BoardLemmas.{listed, unlisted}

-- ---- masks

-- the masks before an index are joined, and the others are as they were
pub record JoinedBelow (index : ℕ) (old more new : List ℕ) : Type 0 where
  pub inside : (i : ℕ) → i < index → slice_index new i ≡ bit_or (slice_index old i) (slice_index more i)
  pub outside : (i : ℕ) → index ≤ i → slice_index new i ≡ slice_index old i
  pub same_size : length new ≡ length old

pub none_joined : (old more : List ℕ) → JoinedBelow 0 old more old
none_joined old more = record { inside = λ i h. absurd (omega arith); outside = λ i _. refl; same_size = refl }

pub one_more_joined : (index mask : ℕ) (first old more new : List ℕ) → JoinedBelow index first more old → mask ≡ slice_index more index
    → AddsMask index mask old new → JoinedBelow (index + 1) first more new
one_more_joined index mask first old more new j is a = record {
  inside = below_more (λ i. slice_index new i ≡ bit_or (slice_index first i) (slice_index more i)) index
      (λ i h. a.others i (omega arith) ∙ j.inside i h)
      (a.marked ∙ ap (λ (x : ℕ). bit_or x mask) (j.outside index (omega arith)) ∙ ap (bit_or (slice_index first index)) is);
  outside = λ i h. a.others i (omega arith) ∙ j.outside i (omega arith);
  same_size = a.same_size ∙ j.same_size;
}

-- past the last mask nothing is joined
pub all_joined : (index : ℕ) (old more new : List ℕ) → JoinedBelow index old more new → length more ≤ index → AreJoined old more new
all_joined index old more new j past i = go (cases_lt i index)
  where
    go : (i < index) ⊎ (index ≤ i) → slice_index new i ≡ bit_or (slice_index old i) (slice_index more i)
    go (inl h) = j.inside i h
    go (inr h) = j.outside i h ∙ sym (or_zero_r (slice_index old i)) ∙ ap (bit_or (slice_index old i)) (sym (get_or_past more i 0 (omega arith)))

small : (mask levels : ℕ) → mask ≤ 2 ^ levels - 1 → 0 < 2 ^ levels → mask < 2 ^ levels
small mask levels h k = omega arith

or_few : (a b levels : ℕ) → 0 < 2 ^ levels → a ≤ 2 ^ levels - 1 → b ≤ 2 ^ levels - 1 → bit_or a b ≤ 2 ^ levels - 1
or_few a b levels some h k = omega (arith, or_lt levels a b (small a levels h some) (small b levels k some))

-- joined masks have no further bits
pub joined_within : (candidates levels : ℕ) (old more new : List ℕ) → 0 < 2 ^ levels → AreJoined old more new
    → AreMasksWithin candidates (2 ^ levels - 1) old → AreMasksWithin candidates (2 ^ levels - 1) more → AreMasksWithin candidates (2 ^ levels - 1) new
joined_within candidates levels old more new some joined within_old within_more index = go (cases_lt index candidates)
  where
    bits : ℕ
    bits = 2 ^ levels - 1

    go : (index < candidates) ⊎ (candidates ≤ index) → slice_index new index ≤ greatest_mask candidates (2 ^ levels - 1) index
    go (inl h) =
        let e : greatest_mask candidates (2 ^ levels - 1) index ≡ 2 ^ levels - 1 = listed candidates (2 ^ levels - 1) index h in
        omega (arith, e, joined index, or_few (slice_index old index) (slice_index more index) levels some (omega (arith, within_old index, e)) (omega (arith, within_more index, e)))
    go (inr h) =
        let e : greatest_mask candidates (2 ^ levels - 1) index ≡ 0 = unlisted candidates (2 ^ levels - 1) index h in
        omega (arith, e, joined index, or_few (slice_index old index) (slice_index more index) 0 (omega arith) (omega (arith, within_old index, e)) (omega (arith, within_more index, e)))

-- ---- pictures

get_left : (xs ys : List Traffic) (n : ℕ) (a : Traffic) → slice_get xs n ≡ Some a → slice_get (xs ++ ys) n ≡ Some a
get_left xs ys n a h =
    let within : n < length xs = slice_get_within xs n a h in
    slice_get-get_or (xs ++ ys) n a (omega (arith, length-append xs ys))
    ∙ ap Some (get_or_append_left xs ys a n within ∙ get_or_from_slice_get xs n a a h)

get_right : (xs ys : List Traffic) (n : ℕ) (a : Traffic) → slice_get ys n ≡ Some a → slice_get (xs ++ ys) (length xs + n) ≡ Some a
get_right xs ys n a h =
    let within : n < length ys = slice_get_within ys n a h in
    slice_get-get_or (xs ++ ys) (length xs + n) a (omega (arith, length-append xs ys))
    ∙ ap Some (get_or-append-add xs ys n a ∙ get_or_from_slice_get ys n a a h)

get_either : (xs ys : List Traffic) (n : ℕ) (a : Traffic) → slice_get (xs ++ ys) n ≡ Some a
    → (slice_get xs n ≡ Some a) ⊎ (slice_get ys (n - length xs) ≡ Some a)
get_either xs ys n a h = go (cases_lt n (length xs))
  where
    go : (n < length xs) ⊎ (length xs ≤ n) → (slice_get xs n ≡ Some a) ⊎ (slice_get ys (n - length xs) ≡ Some a)
    go (inl k) = inl (slice_get-get_or xs n a k ∙ ap Some (sym (get_or_append_left xs ys a n k) ∙ get_or_from_slice_get (xs ++ ys) n a a h))
    go (inr k) =
        let e : length xs + (n - length xs) ≡ n = omega arith in
        let within : n < length (xs ++ ys) = slice_get_within (xs ++ ys) n a h in
        inr (slice_get-get_or ys (n - length xs) a (omega (arith, length-append xs ys))
        ∙ ap Some (sym (get_or-append-add xs ys (n - length xs) a) ∙ ap (λ (i : ℕ). get_or (xs ++ ys) i a) e ∙ get_or_from_slice_get (xs ++ ys) n a a h))

module _ (settings : Settings) (one other both : Picture) (b : IsOfBoth one other both) (index l : ℕ) where
  covered_left : CoveredAt settings one index l → CoveredAt settings both index l
  covered_left c = (
    c.0,
    record {
      candidate = c.1.candidate;
      aircraft = c.1.aircraft;
      listed = c.1.listed;
      there = subst (λ (xs : List Traffic). slice_get xs c.0 ≡ Some c.1.aircraft) (sym b.aircraft) (get_left (aircraft_of one) (aircraft_of other) c.0 c.1.aircraft c.1.there);
      meets = subst (λ (own : Own). Meets settings own c.1.candidate c.1.aircraft l) b.own_one c.1.meets;
    },
  )

  covered_right : CoveredAt settings other index l → CoveredAt settings both index l
  covered_right c = (
    length (aircraft_of one) + c.0,
    record {
      candidate = c.1.candidate;
      aircraft = c.1.aircraft;
      listed = c.1.listed;
      there = subst (λ (xs : List Traffic). slice_get xs (length (aircraft_of one) + c.0) ≡ Some c.1.aircraft) (sym b.aircraft)
          (get_right (aircraft_of one) (aircraft_of other) c.0 c.1.aircraft c.1.there);
      meets = subst (λ (own : Own). Meets settings own c.1.candidate c.1.aircraft l) b.own_other c.1.meets;
    },
  )

  covered_either : CoveredAt settings both index l → CoveredAt settings one index l ⊎ CoveredAt settings other index l
  covered_either c = go (get_either (aircraft_of one) (aircraft_of other) c.0 c.1.aircraft (subst (λ (xs : List Traffic). slice_get xs c.0 ≡ Some c.1.aircraft) b.aircraft c.1.there))
    where
      go : (slice_get (aircraft_of one) c.0 ≡ Some c.1.aircraft) ⊎ (slice_get (aircraft_of other) (c.0 - length (aircraft_of one)) ≡ Some c.1.aircraft)
          → CoveredAt settings one index l ⊎ CoveredAt settings other index l
      go (inl there) = inl (
        c.0,
        record {
          candidate = c.1.candidate;
          aircraft = c.1.aircraft;
          listed = c.1.listed;
          there = there;
          meets = subst (λ (own : Own). Meets settings own c.1.candidate c.1.aircraft l) (sym b.own_one) c.1.meets;
        },
      )
      go (inr there) = inr (
        c.0 - length (aircraft_of one),
        record {
          candidate = c.1.candidate;
          aircraft = c.1.aircraft;
          listed = c.1.listed;
          there = there;
          meets = subst (λ (own : Own). Meets settings own c.1.candidate c.1.aircraft l) (sym b.own_other) c.1.meets;
        },
      )

-- the joined board of two pictures is that of both together
pub joined_board : (settings : Settings) (one other both : Picture) (a b joined : List ℕ) → IsOfBoth one other both
    → IsBoardOf (CoveredAt settings one) settings a → IsBoardOf (CoveredAt settings other) settings b → AreJoined a b joined
    → IsBoardOf (CoveredAt settings both) settings joined
joined_board settings one other both a b joined of_both of_one of_other j = record {
  each = λ index l within low high. (
    (λ has. go_cover index l within low high (split index l has)),
    (λ covered. go_has index l within low high (covered_either settings one other both of_both index l covered)),
  );
  no_level_above = λ index l above has. go_above index l above (split index l has);
  no_candidate_past = λ index l past low has. go_past index l past low (split index l has);
}
  where
    split : (index l : ℕ) → HasLevelOn joined index l → HasLevelOn a index l ⊎ HasLevelOn b index l
    split index l has = either (slice_index a index) (slice_index b index) l (along (slice_index joined index) (bit_or (slice_index a index) (slice_index b index)) l (j index) has)

    merge_left : (index l : ℕ) → HasLevelOn a index l → HasLevelOn joined index l
    merge_left index l has = along (bit_or (slice_index a index) (slice_index b index)) (slice_index joined index) l (sym (j index)) (left (slice_index a index) (slice_index b index) l has)

    merge_right : (index l : ℕ) → HasLevelOn b index l → HasLevelOn joined index l
    merge_right index l has = along (bit_or (slice_index a index) (slice_index b index)) (slice_index joined index) l (sym (j index)) (right (slice_index a index) (slice_index b index) l has)

    go_cover : (index l : ℕ) → index < length (candidates_of settings) → 1 ≤ l → l ≤ length settings.levels → HasLevelOn a index l ⊎ HasLevelOn b index l
        → CoveredAt settings both index l
    go_cover index l within low high (inl has) = covered_left settings one other both of_both index l ((of_one.each index l within low high).0 has)
    go_cover index l within low high (inr has) = covered_right settings one other both of_both index l ((of_other.each index l within low high).0 has)

    go_has : (index l : ℕ) → index < length (candidates_of settings) → 1 ≤ l → l ≤ length settings.levels
        → CoveredAt settings one index l ⊎ CoveredAt settings other index l → HasLevelOn joined index l
    go_has index l within low high (inl covered) = merge_left index l ((of_one.each index l within low high).1 covered)
    go_has index l within low high (inr covered) = merge_right index l ((of_other.each index l within low high).1 covered)

    go_above : (index l : ℕ) → length settings.levels < l → HasLevelOn a index l ⊎ HasLevelOn b index l → ⊥
    go_above index l above (inl has) = of_one.no_level_above index l above has
    go_above index l above (inr has) = of_other.no_level_above index l above has

    go_past : (index l : ℕ) → length (candidates_of settings) ≤ index → 1 ≤ l → HasLevelOn a index l ⊎ HasLevelOn b index l → ⊥
    go_past index l past low (inl has) = of_one.no_candidate_past index l past low has
    go_past index l past low (inr has) = of_other.no_candidate_past index l past low has
