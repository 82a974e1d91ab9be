-- How the scan is divided into units: which aircraft and which candidates a unit is of, and what its word says.
use Rattle.std.specs.Prelude.{◌≡◌, ℕ, ◌+◌, ◌-◌, ◌*◌, ◌/◌, ◌%◌, ◌^◌, ◌<◌, ◌↔◌, List, length, slice_index, Contains}
use Rattle.daa_config.specs.Candidates.{candidates_of}
use Rattle.daa_fixed.specs.Mask.{IsMaskOf}
use Rattle.daa_config.specs.Packing.{group_size, place_width, presence_in, mask_in}
use Rattle.daa_config.specs.Settings.{Settings}
use Rattle.daa_scan.specs.Reach.{IsInReachAt}
use Rattle.daa_scan.specs.SceneState.{SceneState, MeetsAt}

-- how many groups the whole list of candidates has: its number over the group's size, rounded up
abbrev pub group_count : Settings → ℕ
group_count settings = (length (candidates_of settings) + (group_size - 1)) / group_size

-- the greatest number of groups, since a configuration has at most 1897 candidates
abbrev pub most_groups : ℕ
most_groups = 159

-- the greatest number of units of a moment: one for each of 64 aircraft and each group
abbrev pub most_units : ℕ
most_units = 64 * most_groups

-- the place in the whole list of candidate j of a group
abbrev pub index_in : (group j : ℕ) → ℕ
index_in group j = group_size * group + j

-- these are the places of the aircraft in reach, in input order
pub record AreInReach (s : SceneState) (places : List ℕ) : Type 0 where
  pub each : (i : ℕ) → i < length places → IsInReachAt s (slice_index places i)
  pub every : (at : ℕ) → IsInReachAt s at → Contains places at
  pub in_order : (i j : ℕ) → i < j → j < length places → slice_index places i < slice_index places j

-- the word of a group of candidates and the aircraft at a place of the moment's list: at each place of the group, whether the list has
-- the candidate, and the mask of the levels at which it meets the aircraft; the bits past the places are 0
pub record IsWordOf (s : SceneState) (at group word : ℕ) : Type 0 where
  pub present : (j : ℕ) → j < group_size → presence_in word j ≡ 1 ↔ index_in group j < length (candidates_of s.settings)
  pub masks : (j : ℕ) → j < group_size → IsMaskOf (MeetsAt s (index_in group j) at) (length s.settings.levels) (mask_in word j)
  pub rest : word < 2 ^ (place_width * group_size)

-- the words in order of units: unit u is group u mod g of the aircraft with index u / g in reach
pub record AreWordsOf (s : SceneState) (words : List ℕ) : Type 0 where
  pub places : List ℕ
  pub in_reach : AreInReach s places
  pub count : length words ≡ group_count s.settings * length places
  pub each : (unit : ℕ) → unit < length words → IsWordOf s (slice_index places (unit / group_count s.settings)) (unit % group_count s.settings) (slice_index words unit)

-- the word is that of a unit: of group u mod g and the aircraft with index u / g in reach
pub record IsWordOfUnit (s : SceneState) (unit word : ℕ) : Type 0 where
  pub places : List ℕ
  pub in_reach : AreInReach s places
  pub there : unit / group_count s.settings < length places
  pub is : IsWordOf s (slice_index places (unit / group_count s.settings)) (unit % group_count s.settings) word
