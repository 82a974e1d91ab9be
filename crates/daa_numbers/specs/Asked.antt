-- What calls fill in if they return 0, under the configuration of the numbers, which is accepted.
use Rattle.std.specs.Prelude.{true, false, ◌≡◌, ◌<◌, ◌≤◌, ℕ, ℤ, List, length, map, take, slice_get, Option, Some, None, Ok}
use Rattle.daa_bands.specs.Board.{HasLevelOn, IsBoardOf}
use Rattle.daa_bands.specs.KindBands.{AreKindBands}
use Rattle.daa_config.specs.Candidates.{candidates_of, values_of}
use Rattle.daa_config.specs.Settings.{Settings}
use Rattle.daa_config.specs.declared.candidate.Candidate.{Candidate}
use Rattle.daa_config.specs.declared.candidate.Resolution.{Resolution}
use Rattle.daa_config.specs.declared.kind.Kind.{Kind}
use Rattle.daa_engine.specs.Covered.{CoveredAt}
use Rattle.daa_engine.specs.MomentText.{IsMomentText}
use Rattle.daa_last.specs.Last.{IsLastTime}
use Rattle.daa_recovery.specs.Recovery.{IsRecovery, IsSideRecovery}
use Rattle.daa_recovery.specs.declared.recovery.Recovery.{Recovery}
use Rattle.daa_resolve.specs.Resolution.{IsResolution}
use Rattle.daa_resolve.specs.declared.side.Side.{Side}
use Rattle.daa_state.specs.Checked.{AreTaken}
use Rattle.daa_state.specs.InRange.{IsOwnInRange, IsTrafficInRange, IsPictureInRange}
use Rattle.daa_state.specs.Picture.{aircraft_of}
use Rattle.daa_state.specs.declared.word.Own.{Own}
use Rattle.daa_state.specs.declared.word.Traffic.{Traffic}
use Rattle.daa_state.specs.declared.word.Picture.{Picture}
use Rattle.daa_numbers.specs.declared.alerts.DaaAlert.{DaaAlert}
use Rattle.daa_numbers.specs.declared.banding.DaaBand.{DaaBand}
use Rattle.daa_numbers.specs.declared.boards.DaaBoard.{DaaBoard}
use Rattle.daa_numbers.specs.declared.candidates.DaaCandidate.{DaaCandidate}
use Rattle.daa_numbers.specs.declared.last_times.DaaLast.{DaaLast}
use Rattle.daa_numbers.specs.declared.recovering.DaaRecovery.{DaaRecovery}
use Rattle.daa_numbers.specs.declared.refusal.Refusal.{Refusal}
use Rattle.daa_numbers.specs.declared.resolving.DaaResolution.{DaaResolution}
use Rattle.daa_numbers.specs.declared.setting.DaaConfig.{DaaConfig}
use Rattle.daa_numbers.specs.Boards.{IsWhole, board_sum, mark_of}
use Rattle.daa_numbers.specs.Codes.{candidate_by, IsNoKind, IsNoSide, kind_number, side_number}
use Rattle.daa_numbers.specs.Filled.{IsFilledAlert, AreLevelsOn, band_of, resolution_by, recovery_by, last_by}
use Rattle.daa_numbers.specs.Numbers.{settings_by}

-- a picture that the engine takes
pub record IsTaken (picture : Picture) : Type 0 where
  pub range : IsPictureInRange picture
  pub different : AreTaken (aircraft_of picture)

-- nothing else is refused, and the number stands for no kind
pub record HasNoKind (refusal : Option Refusal) (number : ℤ) : Type 0 where
  pub sound : refusal ≡ None
  pub none : IsNoKind number

-- nothing else is refused, and the first number stands for a kind, but the second for no side
pub record HasNoSide (refusal : Option Refusal) (kind_given side_given : ℤ) : Type 0 where
  pub sound : refusal ≡ None
  pub kind : Kind
  pub kind_is : kind_number kind ≡ kind_given
  pub none : IsNoSide side_given

-- nothing else is refused, and the number stands for a kind, but something is wrong with the board
pub record HasKindBut (refusal : Option Refusal) (number : ℤ) (Wrong : Type 0) : Type 0 where
  pub sound : refusal ≡ None
  pub kind : Kind
  pub kind_is : kind_number kind ≡ number
  pub wrong : Wrong

-- nothing else is refused, and the numbers stand for a kind and a side, but something is wrong with the board, or is not asked for
pub record HasSideBut (refusal : Option Refusal) (kind_given side_given : ℤ) (Wrong : Type 0) : Type 0 where
  pub sound : refusal ≡ None
  pub kind : Kind
  pub kind_is : kind_number kind ≡ kind_given
  pub side : Side
  pub side_is : side_number side ≡ side_given
  pub wrong : Wrong

module _ (config : DaaConfig) where
  -- the candidate at an index of the whole list
  pub record IsCandidateAt (index : ℕ) (out : DaaCandidate) : Type 0 where
    pub settings : Settings
    pub accepted : settings_by config ≡ Ok settings
    pub candidate : Candidate
    pub there : slice_get (candidates_of settings) index ≡ Some candidate
    pub filled : out ≡ candidate_by candidate

  -- there is no candidate at an index of the whole list
  pub record HasNoCandidateAt (index : ℕ) : Type 0 where
    pub settings : Settings
    pub accepted : settings_by config ≡ Ok settings
    pub beyond : length (candidates_of settings) ≤ index

  -- the level now and the alert of an aircraft, of numbers in range
  pub record IsAlertUnder (own : Own) (aircraft : Traffic) (out : DaaAlert) : Type 0 where
    pub settings : Settings
    pub accepted : settings_by config ≡ Ok settings
    pub own_range : IsOwnInRange own
    pub traffic_range : IsTrafficInRange aircraft
    pub filled : IsFilledAlert settings own aircraft out

  -- the board of a picture, with the mark of the configuration, the ownship and the time of the picture, and the sum of the masks
  pub record IsDecided (picture : Picture) (board : DaaBoard) : Type 0 where
    pub settings : Settings
    pub accepted : settings_by config ≡ Ok settings
    pub taken : IsTaken picture
    pub covers : IsBoardOf (CoveredAt settings picture) settings board.masks
    pub mark : board.mark ≡ mark_of config
    pub own : board.own ≡ picture.own
    pub time : board.time ≡ picture.time
    pub sum : board.sum ≡ board_sum settings board.masks

  -- the levels that a board of the time shows of all candidates, and how many they are
  pub record AreLevelsUnder (time : ℕ) (board : DaaBoard) (levels : List ℕ) (count : ℕ) : Type 0 where
    pub settings : Settings
    pub accepted : settings_by config ≡ Ok settings
    pub whole : IsWhole config settings board
    pub time_is : board.time ≡ time
    pub all : count ≡ length (candidates_of settings)
    pub fits : count ≤ length levels
    pub shown : AreLevelsOn board.masks (length settings.levels) count levels

  -- the board is whole and of the time, and there are more candidates than there is room for
  pub record HasMoreCandidates (time : ℕ) (board : DaaBoard) (room : ℕ) : Type 0 where
    pub settings : Settings
    pub accepted : settings_by config ≡ Ok settings
    pub whole : IsWhole config settings board
    pub time_is : board.time ≡ time
    pub more : room < length (candidates_of settings)

  -- the bands of the kind with this number on a board of the time, and how many they are
  pub record AreBandsUnder (time : ℕ) (board : DaaBoard) (number : ℤ) (bands : List DaaBand) (count : ℕ) : Type 0 where
    pub settings : Settings
    pub accepted : settings_by config ≡ Ok settings
    pub whole : IsWhole config settings board
    pub time_is : board.time ≡ time
    pub kind : Kind
    pub kind_is : kind_number kind ≡ number
    pub fits : length (values_of kind settings) ≤ length bands
    pub within : count ≤ length bands
    pub are : AreKindBands (HasLevelOn board.masks) (length settings.levels) settings kind (map band_of (take count bands))

  -- the board is whole and of the time, and the kind with this number has more values than there is room for
  pub record HasMoreValues (time : ℕ) (board : DaaBoard) (number : ℤ) (room : ℕ) : Type 0 where
    pub settings : Settings
    pub accepted : settings_by config ≡ Ok settings
    pub whole : IsWhole config settings board
    pub time_is : board.time ≡ time
    pub kind : Kind
    pub kind_is : kind_number kind ≡ number
    pub more : room < length (values_of kind settings)

  -- the answer on the side of the kind with these numbers, on a board of the time and the ownship
  pub record IsResolutionUnder (time : ℕ) (own : Own) (board : DaaBoard) (kind_given side_given : ℤ) (out : DaaResolution) : Type 0 where
    pub settings : Settings
    pub accepted : settings_by config ≡ Ok settings
    pub whole : IsWhole config settings board
    pub time_is : board.time ≡ time
    pub own_is : board.own ≡ own
    pub own_range : IsOwnInRange own
    pub kind : Kind
    pub kind_is : kind_number kind ≡ kind_given
    pub side : Side
    pub side_is : side_number side ≡ side_given
    pub answer : Resolution
    pub is : IsResolution (HasLevelOn board.masks) settings own kind side answer
    pub filled : out ≡ resolution_by answer

  -- the recovery of the kind with this number
  pub record IsRecoveryUnder (picture : Picture) (number : ℤ) (out : DaaRecovery) : Type 0 where
    pub settings : Settings
    pub accepted : settings_by config ≡ Ok settings
    pub taken : IsTaken picture
    pub kind : Kind
    pub kind_is : kind_number kind ≡ number
    pub answer : Option Recovery
    pub is : IsRecovery settings picture kind answer
    pub filled : out ≡ recovery_by answer

  -- the recovery on the side of the kind with these numbers
  pub record IsSideRecoveryUnder (picture : Picture) (kind_given side_given : ℤ) (out : DaaRecovery) : Type 0 where
    pub settings : Settings
    pub accepted : settings_by config ≡ Ok settings
    pub taken : IsTaken picture
    pub kind : Kind
    pub kind_is : kind_number kind ≡ kind_given
    pub side : Side
    pub side_is : side_number side ≡ side_given
    pub answer : Option Recovery
    pub is : IsSideRecovery side settings picture kind answer
    pub filled : out ≡ recovery_by answer

  -- it is accepted, and asks for no recovery
  pub record HasNoRecovery : Type 0 where
    pub settings : Settings
    pub accepted : settings_by config ≡ Ok settings
    pub none : settings.recovery ≡ None

  -- nothing else is refused, and it asks for no recovery
  pub record AsksForNone (refusal : Option Refusal) (number : ℤ) : Type 0 where
    pub sound : refusal ≡ None
    pub kind : Kind
    pub kind_is : kind_number kind ≡ number
    pub settings : Settings
    pub accepted : settings_by config ≡ Ok settings
    pub none : settings.recovery ≡ None

  -- last times are asked for, and it is that of the kind with this number
  pub record IsLastUnder (picture : Picture) (number : ℤ) (out : DaaLast) : Type 0 where
    pub settings : Settings
    pub accepted : settings_by config ≡ Ok settings
    pub asked : settings.last_times ≡ true
    pub taken : IsTaken picture
    pub kind : Kind
    pub kind_is : kind_number kind ≡ number
    pub answer : Option ℕ
    pub is : IsLastTime settings picture kind answer
    pub filled : out ≡ last_by answer

  -- nothing else is refused, and it asks for no last times
  pub record AsksForNoLast (refusal : Option Refusal) (number : ℤ) : Type 0 where
    pub sound : refusal ≡ None
    pub kind : Kind
    pub kind_is : kind_number kind ≡ number
    pub settings : Settings
    pub accepted : settings_by config ≡ Ok settings
    pub none : settings.last_times ≡ false

  -- the text of a picture
  pub record IsReported (picture : Picture) (text : List ℕ) : Type 0 where
    pub settings : Settings
    pub accepted : settings_by config ≡ Ok settings
    pub taken : IsTaken picture
    pub said : IsMomentText settings picture text

  -- the picture has a text of more bytes than there is room for
  pub record HasLongerText (picture : Picture) (room : ℕ) : Type 0 where
    pub text : List ℕ
    pub reported : IsReported picture text
    pub longer : room < length text
