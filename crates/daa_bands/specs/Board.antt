-- The masks of a board, and what is added to them.
use Rattle.std.specs.Prelude.{◌≡◌, ◌≢◌, ◌⊎◌, ◌<◌, ◌≤◌, ◌+◌, ◌*◌, ◌↔◌, ℕ, List, length, slice_index, bit_or}
use Rattle.daa_config.specs.Candidates.{candidates_of}
use Rattle.daa_fixed.specs.Mask.{HasLevel}
use Rattle.daa_config.specs.Packing.{group_size, mask_in}
use Rattle.daa_config.specs.Settings.{Settings}

-- how many candidates a board has a mask for
abbrev pub board_size : ℕ
board_size = 2048

-- how many levels a mask has a bit for
abbrev pub mask_levels : ℕ
mask_levels = 8

-- the board has a level for the candidate at an index of the whole list
abbrev pub HasLevelOn : List ℕ → ℕ → ℕ → Type 0
HasLevelOn board index level = HasLevel (slice_index board index) level

-- the candidate at the index has got the levels of the mask and kept its own; no other candidate has changed
pub record AddsMask (index mask : ℕ) (old new : List ℕ) : Type 0 where
  pub marked : slice_index new index ≡ bit_or (slice_index old index) mask
  pub others : (i : ℕ) → i ≢ index → slice_index new i ≡ slice_index old i
  pub same_size : length new ≡ length old

-- each candidate of the group has got the levels that the word has of it and kept its own; no other has changed
pub record AddsWord (group word : ℕ) (old new : List ℕ) : Type 0 where
  pub inside : (index : ℕ) → index < group_size →
      slice_index new (group_size * group + index) ≡ bit_or (slice_index old (group_size * group + index)) (mask_in word index)
  pub outside : (index : ℕ) → (index < group_size * group) ⊎ (group_size * group + group_size ≤ index)
      → slice_index new index ≡ slice_index old index
  pub same_size : length new ≡ length old

-- the board has a level for a candidate exactly if the candidate is covered at the level, and nothing else
pub record IsBoardOf (Covered : ℕ → ℕ → Type 0) (settings : Settings) (board : List ℕ) : Type 0 where
  pub each : (index l : ℕ) → index < length (candidates_of settings) → 1 ≤ l → l ≤ length settings.levels → HasLevelOn board index l ↔ Covered index l
  pub no_level_above : (index l : ℕ) → length settings.levels < l → HasLevelOn board index l → ⊥
  pub no_candidate_past : (index l : ℕ) → length (candidates_of settings) ≤ index → 1 ≤ l → HasLevelOn board index l → ⊥
