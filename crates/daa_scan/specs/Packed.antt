-- The words of the units in a form that can be computed. Units.antt defines them in the field's
-- terms; here each question is answered by trying.
use Rattle.std.specs.Prelude.{ℕ, zero, suc, ◌+◌, ◌*◌, ◌/◌, ◌%◌, pos, ◌+ℤ◌, ◌*ℤ◌, Bool, false, not, ◌&&◌, ◌||◌, if◌then◌else◌, int_le, List, [], ◌∷◌, ◌++◌, length, slice_get, slice_index, Option, Some, None}
use Rattle.std.specs.List.{list_any}
use Rattle.daa_config.specs.declared.candidate.Candidate.{Candidate}
use Rattle.daa_config.specs.declared.level.Level.{Level}
use Rattle.daa_config.specs.Candidates.{candidates_of}
use Rattle.daa_config.specs.Packing.{group_size}
use Rattle.daa_config.specs.Settings.{Settings}
use Rattle.daa_state.specs.declared.word.Own.{Own}
use Rattle.daa_state.specs.declared.word.Traffic.{Traffic}
use Rattle.daa_state.specs.Picture.{aircraft_of}
use Rattle.daa_legs.specs.Errors.{are_exact}
use Rattle.daa_meet.proofs.Told.{is_met_within}
use Rattle.daa_scan.specs.Reach.{size_of, place_now, horizontal_speed, vertical_speed}
use Rattle.daa_scan.specs.SceneState.{SceneState}
use Rattle.daa_scan.specs.Units.{group_count, index_in}

-- ---- masks

module _ (settings : Settings) (own : Own) where
  -- the first level's bit is the lowest
  unfoldable pub mask_of : Candidate → Traffic → List Level → ℕ
  mask_of candidate aircraft [] = 0
  mask_of candidate aircraft (level ∷ levels) = (if is_met_within settings own candidate aircraft level.volume level.lookahead then 1 else 0) + 2 * mask_of candidate aircraft levels

  -- ---- reach

  -- east, north and up, the aircraft is near enough to be met at the level
  abbrev pub enters : Traffic → Level → Bool
  enters aircraft level =
      int_le (size_of (place_now own aircraft).flat.east) (pos level.volume.dthr +ℤ pos (level.volume.tthr + level.lookahead) *ℤ horizontal_speed settings own aircraft)
      && (int_le (size_of (place_now own aircraft).flat.north) (pos level.volume.dthr +ℤ pos (level.volume.tthr + level.lookahead) *ℤ horizontal_speed settings own aircraft)
      && int_le (size_of (place_now own aircraft).up) (pos level.volume.zthr +ℤ pos (level.volume.tcoa + level.lookahead) *ℤ vertical_speed settings own aircraft))

  -- the aircraft's report or the ownship's may err, or it is near enough to be met at some level
  unfoldable pub is_reached : Option Traffic → Bool
  is_reached (Some aircraft) = not (are_exact aircraft.bounds) || list_any (enters aircraft) settings.levels
  is_reached None = false

-- those of the numbers below n at which it is true, in order
unfoldable pub numbers_below : (ℕ → Bool) → ℕ → List ℕ
numbers_below f zero = []
numbers_below f (suc n) = if f n then numbers_below f n ++ (n ∷ []) else numbers_below f n

-- whether the aircraft at a place is in reach
unfoldable pub is_reached_at : SceneState → ℕ → Bool
is_reached_at s at = is_reached s.settings s.picture.own (slice_get (aircraft_of s.picture) at)

-- the places of the aircraft in reach
abbrev pub places_in_reach : SceneState → List ℕ
places_in_reach s = numbers_below (is_reached_at s) (length (aircraft_of s.picture))

-- ---- words

-- presence, and the mask above it
abbrev pub entry_for : SceneState → Option Candidate → Option Traffic → ℕ
entry_for s (Some candidate) (Some aircraft) = 1 + 2 * mask_of s.settings s.picture.own candidate aircraft s.settings.levels
entry_for s _ _ = 0

-- the entry of the candidate at an index, for the aircraft at a place
unfoldable pub entry_at : SceneState → (at index : ℕ) → ℕ
entry_at s at index = entry_for s (slice_get (candidates_of s.settings) index) (slice_get (aircraft_of s.picture) at)

-- n entries from number j on, five bits each, the first the lowest
unfoldable pub packed_from : (ℕ → ℕ) → (j n : ℕ) → ℕ
packed_from f j zero = 0
packed_from f j (suc n) = f j + 32 * packed_from f (suc j) n

-- the entries of a group's candidates, for the aircraft at a place
unfoldable pub packed_word : SceneState → (at group : ℕ) → ℕ
packed_word s at group = packed_from (λ j. entry_at s at (index_in group j)) 0 group_size

-- no word is 0, whatever the situation
abbrev pub at_least_one : ℕ → ℕ
at_least_one zero = 1
at_least_one (suc n) = suc n

-- the word of a unit
unfoldable pub word_of : SceneState → ℕ → ℕ
word_of s unit = at_least_one (packed_word s (slice_index (places_in_reach s) (unit / group_count s.settings)) (unit % group_count s.settings))

-- f at n numbers from i on
unfoldable pub values_from : (ℕ → ℕ) → (i n : ℕ) → List ℕ
values_from f i zero = []
values_from f i (suc n) = f i ∷ values_from f (suc i) n

-- the words in order of units
unfoldable pub words_of : SceneState → List ℕ
words_of s = values_from (word_of s) 0 (group_count s.settings * length (places_in_reach s))
