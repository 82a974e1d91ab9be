-- What the words of all units say together.
use Rattle.std.specs.Prelude.{◌≡◌, ℕ, ◌+◌, ◌*◌, ◌%◌, ◌<◌, ◌↔◌, List, slice_index}
use Rattle.daa_fixed.specs.Mask.{HasLevel}
use Rattle.daa_config.specs.Packing.{group_size, mask_in}
use Rattle.daa_bands.specs.Board.{HasLevelOn}

module _ (groups : ℕ) (words : List ℕ) where
  -- the word of one of the first units says that the candidate at the index has the level
  pub record SaysLevel (count index l : ℕ) : Type 0 where
    pub unit : ℕ
    pub place : ℕ
    pub before : unit < count
    pub inside : place < group_size
    pub at : index ≡ group_size * (unit % groups) + place
    pub level : HasLevel (mask_in (slice_index words unit) place) l

  -- a board has exactly the levels that the words of the first units say
  abbrev pub IsMerged : (count : ℕ) → (board : List ℕ) → Type 0
  IsMerged count board = (index l : ℕ) → HasLevelOn board index l ↔ SaysLevel count index l
