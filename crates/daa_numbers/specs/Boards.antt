-- Boards that are marked with the configuration and the moment that they were decided of.
use Rattle.std.specs.Prelude.{◌≡◌, ◌≢◌, ◌⊎◌, ◌≤◌, ◌+◌, ◌-◌, ◌*◌, ◌%◌, ◌^◌, ◌∷◌, ◌++◌, [], ℕ, ℤ, zero, suc, pos, nat_lt, List, length, slice_index, slice_get, take, bit_or, Option, Some, None, Ok, if◌then◌else◌}
use Rattle.std.specs.List.{fold}
use Rattle.daa_config.specs.Candidates.{candidates_of}
use Rattle.daa_config.specs.Settings.{Settings}
use Rattle.daa_config.specs.declared.numbers.Grid.{Grid}
use Rattle.daa_config.specs.declared.numbers.LevelNumbers.{LevelNumbers}
use Rattle.daa_config.specs.declared.numbers.RecoveryNumbers.{RecoveryNumbers}
use Rattle.daa_state.specs.declared.word.Own.{Own}
use Rattle.daa_numbers.specs.Numbers.{settings_by}
use Rattle.daa_numbers.specs.declared.boards.DaaBoard.{DaaBoard}
use Rattle.daa_numbers.specs.declared.setting.DaaConfig.{DaaConfig}

-- zeros in the place of a level that does not count
abbrev pub no_level : LevelNumbers
no_level = record { dthr = pos 0; zthr = pos 0; tthr = pos 0; tcoa = pos 0; lookahead = pos 0; alert = pos 0; tcpa = pos 0; tau = pos 0; tep = pos 0 }

-- zeros in the place of a cylinder that does not count
abbrev pub no_cylinder : RecoveryNumbers
no_cylinder = record { hdist = pos 0; vdist = pos 0; nearest = pos 0 }

-- the numbers, or none
abbrev pub level_or_none : Option LevelNumbers → LevelNumbers
level_or_none (Some level) = level
level_or_none None = no_level

-- the numbers of the level at a place, if it counts
abbrev pub level_at : DaaConfig → ℕ → LevelNumbers
level_at c place = if nat_lt place c.count then level_or_none (slice_get c.levels place) else no_level

-- the numbers of the cylinder, if a recovery is asked for
abbrev pub cylinder_at : ℕ → RecoveryNumbers → RecoveryNumbers
cylinder_at zero cylinder = no_cylinder
cylinder_at (suc n) cylinder = cylinder

-- the numbers of a kind's values, in the order of their struct
abbrev pub grid_numbers : Grid → List ℤ
grid_numbers g = g.min ∷ g.max ∷ g.step ∷ g.rate ∷ []

-- the numbers of a cylinder
abbrev pub cylinder_numbers : RecoveryNumbers → List ℤ
cylinder_numbers r = r.hdist ∷ r.vdist ∷ r.nearest ∷ []

-- the numbers of a level
abbrev pub level_numbers : LevelNumbers → List ℤ
level_numbers l = l.dthr ∷ l.zthr ∷ l.tthr ∷ l.tcoa ∷ l.lookahead ∷ l.alert ∷ l.tcpa ∷ l.tau ∷ l.tep ∷ []

-- the mark of a configuration: its numbers, and zeros in the place of each number that does not count. A cylinder or level that counts is never all zeros
abbrev pub mark_of : DaaConfig → List ℤ
mark_of c =
    c.numbers.resolve ∷ c.numbers.turn_rate ∷ c.numbers.track_step ∷ grid_numbers c.numbers.gs ++ grid_numbers c.numbers.vs ++ grid_numbers c.numbers.alt
    ++ cylinder_numbers (cylinder_at c.recovery c.cylinder) ++ (c.last_times ∷ [])
    ++ level_numbers (level_at c 0) ++ level_numbers (level_at c 1) ++ level_numbers (level_at c 2) ++ level_numbers (level_at c 3)

-- the greatest that the mask at an index may be: the bits of all levels for a candidate, else none
abbrev pub greatest_mask : (candidates bits index : ℕ) → ℕ
greatest_mask candidates bits index = if nat_lt index candidates then bits else 0

-- no mask has a bit of no level, or stands past the candidates
abbrev pub AreMasksWithin : (candidates bits : ℕ) → List ℕ → Type 0
AreMasksWithin candidates bits masks = (index : ℕ) → slice_index masks index ≤ greatest_mask candidates bits index

-- the board is marked with the configuration, and says nothing but levels of its candidates
pub record IsMarked (config : DaaConfig) (settings : Settings) (board : DaaBoard) : Type 0 where
  pub mark : board.mark ≡ mark_of config
  pub masks : AreMasksWithin (length (candidates_of settings)) (2 ^ length settings.levels - 1) board.masks

-- the configuration is accepted, and the board is none of it
pub record IsNoBoard (config : DaaConfig) (board : DaaBoard) : Type 0 where
  pub settings : Settings
  pub accepted : settings_by config ≡ Ok settings
  pub other : IsMarked config settings board → ⊥

-- ---- sums

-- the sum with one mask more
abbrev pub sum_with : (sum mask : ℕ) → ℕ
sum_with sum mask = (sum * 16777619 + mask) % 4294967296

-- the sum of masks: from 1 on, each in turn is added to 16777619 times the sum so far, below 2 ^ 32
abbrev pub sum_of : List ℕ → ℕ
sum_of masks = fold sum_with 1 masks

-- the sum of the masks of a configuration's candidates
abbrev pub board_sum : Settings → List ℕ → ℕ
board_sum settings masks = sum_of (take (length (candidates_of settings)) masks)

-- the board is marked, and has the sum of its masks
pub record IsWhole (config : DaaConfig) (settings : Settings) (board : DaaBoard) : Type 0 where
  pub marked : IsMarked config settings board
  pub sum : board.sum ≡ board_sum settings board.masks

-- the configuration is accepted, and the board is marked with it, but has not the sum of its masks
pub record IsDamaged (config : DaaConfig) (board : DaaBoard) : Type 0 where
  pub settings : Settings
  pub accepted : settings_by config ≡ Ok settings
  pub marked : IsMarked config settings board
  pub other : board.sum ≢ board_sum settings board.masks

-- the configuration is accepted, and the board is whole, but of another time
pub record IsOfOtherTime (config : DaaConfig) (time : ℕ) (board : DaaBoard) : Type 0 where
  pub settings : Settings
  pub accepted : settings_by config ≡ Ok settings
  pub whole : IsWhole config settings board
  pub other : board.time ≢ time

-- the configuration is accepted, and the board is whole and of the time, but of another ownship
pub record IsOfOtherOwn (config : DaaConfig) (time : ℕ) (own : Own) (board : DaaBoard) : Type 0 where
  pub settings : Settings
  pub accepted : settings_by config ≡ Ok settings
  pub whole : IsWhole config settings board
  pub time_is : board.time ≡ time
  pub other : board.own ≢ own

-- ---- boards joined

-- the configuration is accepted, and both boards are marked with it, but one has not the sum of its masks
pub record IsOneDamaged (config : DaaConfig) (one other : DaaBoard) : Type 0 where
  pub settings : Settings
  pub accepted : settings_by config ≡ Ok settings
  pub marked_one : IsMarked config settings one
  pub marked_other : IsMarked config settings other
  pub damaged : (one.sum ≢ board_sum settings one.masks) ⊎ (other.sum ≢ board_sum settings other.masks)

-- the configuration is accepted, and both boards are whole, but of two times
pub record AreOfTwoTimes (config : DaaConfig) (one other : DaaBoard) : Type 0 where
  pub settings : Settings
  pub accepted : settings_by config ≡ Ok settings
  pub whole_one : IsWhole config settings one
  pub whole_other : IsWhole config settings other
  pub two : one.time ≢ other.time

-- the configuration is accepted, and both boards are whole and of one time, but of two ownships
pub record AreOfTwoOwns (config : DaaConfig) (one other : DaaBoard) : Type 0 where
  pub settings : Settings
  pub accepted : settings_by config ≡ Ok settings
  pub whole_one : IsWhole config settings one
  pub whole_other : IsWhole config settings other
  pub one_time : one.time ≡ other.time
  pub two : one.own ≢ other.own

-- each joined mask has the bits of both
abbrev pub AreJoined : (one other joined : List ℕ) → Type 0
AreJoined one other joined = (index : ℕ) → slice_index joined index ≡ bit_or (slice_index one index) (slice_index other index)

-- a board to which the levels of another one were added: both are whole, of one time and one ownship, and so is what they make
pub record IsJoinedTo (config : DaaConfig) (more old new : DaaBoard) : Type 0 where
  pub settings : Settings
  pub accepted : settings_by config ≡ Ok settings
  pub whole_more : IsWhole config settings more
  pub whole_old : IsWhole config settings old
  pub whole : IsWhole config settings new
  pub one_time : more.time ≡ old.time
  pub one_own : more.own ≡ old.own
  pub joined : AreJoined old.masks more.masks new.masks
  pub rest : new ≡ record old { masks = new.masks; sum = new.sum }
