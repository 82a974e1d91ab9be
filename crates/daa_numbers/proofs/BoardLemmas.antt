-- Masks that have no bits but those of levels and candidates.
use Rattle.std.proofs.Common.{◌≡◌, ◌<◌, ◌≤◌, ◌-◌, ◌^◌, ◌⊎◌, ◌∙◌, Bool, true, false, ℕ, List, length, ap, arith, inl, inr}
use Rattle.std.specs.Prelude.{nat_lt, slice_index, if◌then◌else◌}
use Rattle.std.specs.Int.{bit_at}
use Rattle.std.proofs.lemmas.Nat.Bits.{bit_at_above, bit_at-zero}
use Rattle.std.proofs.lemmas.Nat.{pow_pos}
use Rattle.std.proofs.lemmas.Bool.{cases_lt, lt-ltb, le-ltb}
use Rattle.daa_bands.specs.Board.{HasLevelOn, IsBoardOf}
use Rattle.daa_config.specs.Candidates.{candidates_of}
use Rattle.daa_config.specs.Settings.{Settings}
use Rattle.daa_fixed.specs.Mask.{HasLevel}
use Rattle.daa_numbers.specs.Boards.{greatest_mask, AreMasksWithin}

-- ---- one mask

zero_one : (a : ℕ) → a ≡ 0 → a ≡ 1 → ⊥
zero_one a none one = omega (arith, none, one)

small : (mask levels : ℕ) → mask ≤ 2 ^ levels - 1 → mask < 2 ^ levels
small mask levels few = omega (arith, few, pow_pos levels)

none_above : (mask levels l : ℕ) → mask ≤ 2 ^ levels - 1 → levels < l → HasLevel mask l → ⊥
none_above mask levels l few above has = zero_one (bit_at mask (l - 1)) (bit_at_above mask levels (l - 1) (small mask levels few) (omega (arith, above))) has

none_at_zero : (mask l : ℕ) → mask ≡ 0 → HasLevel mask l → ⊥
none_at_zero mask l is has = zero_one (bit_at mask (l - 1)) (ap (λ (m : ℕ). bit_at m (l - 1)) is ∙ bit_at-zero (l - 1)) has

-- ---- all masks

pub listed : (candidates bits index : ℕ) → index < candidates → greatest_mask candidates bits index ≡ bits
listed candidates bits index h = let test : nat_lt index candidates ≡ true = lt-ltb index candidates h in ap (λ (b : Bool). if b then bits else 0) test

pub unlisted : (candidates bits index : ℕ) → candidates ≤ index → greatest_mask candidates bits index ≡ 0
unlisted candidates bits index h = let test : nat_lt index candidates ≡ false = le-ltb index candidates h in ap (λ (b : Bool). if b then bits else 0) test

-- no mask is above the bits
at_most_bits : (candidates bits index : ℕ) → greatest_mask candidates bits index ≤ bits
at_most_bits candidates bits index = go (cases_lt index candidates)
  where
    go : (index < candidates) ⊎ (candidates ≤ index) → greatest_mask candidates bits index ≤ bits
    go (inl h) = omega (arith, listed candidates bits index h)
    go (inr h) = omega (arith, unlisted candidates bits index h)

-- they are a board of the levels that they have
pub board_of_masks : (masks : List ℕ) (s : Settings) → AreMasksWithin (length (candidates_of s)) (2 ^ length s.levels - 1) masks → IsBoardOf (HasLevelOn masks) s masks
board_of_masks masks s within = record {
  each = λ index l _ _ _. ((λ h. h), (λ h. h));
  no_level_above = λ index l above has.
      none_above (slice_index masks index) (length s.levels) l
      (omega (arith, within index, at_most_bits (length (candidates_of s)) (2 ^ length s.levels - 1) index)) above has;
  no_candidate_past = λ index l past _ has.
      none_at_zero (slice_index masks index) l
      (omega (arith, within index, unlisted (length (candidates_of s)) (2 ^ length s.levels - 1) index past)) has;
}
