-- The masks of a stretch of candidates against an aircraft, level by level.
use Rattle.std.specs.Prelude.{◌≡◌, ℕ, ◌+◌, ◌-◌, ◌<◌, ◌≤◌, ℤ, Bool, true, false, List, length, slice_get, slice_index, Some}
use Rattle.daa_config.specs.declared.candidate.Candidate.{Candidate}
use Rattle.daa_config.specs.declared.kind.Kind.{Kind}
use Rattle.daa_config.specs.declared.kind.Kind.TheVariants.{Track, GroundSpeed, VerticalSpeed, Altitude}
use Rattle.daa_config.specs.declared.level.Level.{Level}
use Rattle.daa_config.specs.Candidates.{candidate_to, candidates_of, start_of, values_of}
use Rattle.daa_scan.specs.Adding.{AddsLevels}
use Rattle.daa_config.specs.Settings.{Settings, IsCandidateInRange, IsLevelAt, rates_of}
use Rattle.daa_state.specs.declared.word.Own.{Own}
use Rattle.daa_state.specs.declared.word.Traffic.{Traffic}
use Rattle.daa_legs.specs.Branch.{lead_of}
use Rattle.daa_legs.specs.declared.branch.Branch.{Branch}
use Rattle.daa_legs.specs.Meeting.{Meets, ViolatesOn}
use Rattle.daa_legs.specs.Table.{IsBranchOf}
use Rattle.daa_scan.specs.declared.encounter.Round.{Round}
use Rattle.daa_scan.specs.Inside.Rounds.{settings_in, own_in, aircraft_in, IsClearFrom}
use Rattle.daa_scan.specs.Inside.Sharing.{IsTrailAt}
use Rattle.daa_scan.specs.Trunks.{trunk_in}
use Rattle.daa_scan.specs.declared.marking.Leads.{Leads}
use Rattle.daa_scan.specs.declared.marking.Trails.{Trails}
use Rattle.daa_scan.specs.declared.marking.Stretch.{Stretch}
use Rattle.daa_scan.specs.declared.marking.Stretches.{Stretches}

module _ (settings : Settings) where
  -- the number of a candidate of the kind
  pub record IsNumberOf (kind : Kind) (index : ℕ) : Type 0 where
    pub from : start_of kind settings ≤ index
    pub before : index < start_of kind settings + length (values_of kind settings)

module _ (settings : Settings) (own : Own) (aircraft : Traffic) where
  -- the first n legs of the flight that leads on a side of the kind violate nothing of level l
  abbrev pub AreClear : (kind : Kind) (upper : Bool) (l n : ℕ) → Type 0
  AreClear kind upper l n = (level : Level) → IsLevelAt settings l level → (z : ℤ) (j : ℕ) → j < n → ¬ ViolatesOn settings own (lead_of own (candidate_to kind z) upper) aircraft level.volume j

  -- the candidates of the kind, by their numbers in the whole list, and what is known of level l
  pub record IsStretchAt (kind : Kind) (l : ℕ) (stretch : Stretch) : Type 0 where
    pub from : stretch.from ≡ start_of kind settings
    pub upto : stretch.upto ≡ start_of kind settings + length (values_of kind settings)
    pub upper : AreClear kind true l stretch.upper
    pub lower : AreClear kind false l stretch.lower

  pub record AreStretchesAt (l : ℕ) (stretches : Stretches) : Type 0 where
    pub tracks : IsStretchAt Track l stretches.tracks
    pub speeds : IsStretchAt GroundSpeed l stretches.speeds
    pub climbs : IsStretchAt VerticalSpeed l stretches.climbs
    pub heights : IsStretchAt Altitude l stretches.heights

  -- the candidate at an index of the whole list meets the aircraft at the level
  abbrev pub MeetsListed : (index l : ℕ) → Type 0
  MeetsListed index l = (candidate : Candidate) × (slice_get (candidates_of settings) index ≡ Some candidate) × Meets settings own candidate aircraft l

  -- to the masks of the candidates from number `first` on levels were added: l of them to those before number `upto`, one less to the
  -- others
  pub record AreMarked (first upto l : ℕ) (old masks : List ℕ) : Type 0 where
    pub done : (j : ℕ) → j < length masks → first + j < upto → AddsLevels (MeetsListed (first + j)) l (slice_index old j) (slice_index masks j)
    pub left : (j : ℕ) → j < length masks → upto ≤ first + j → AddsLevels (MeetsListed (first + j)) (l - 1) (slice_index old j) (slice_index masks j)

  -- l levels were added to them
  abbrev pub AreMasks : (first l : ℕ) (old masks : List ℕ) → Type 0
  AreMasks first l old masks = (j : ℕ) → j < length masks → AddsLevels (MeetsListed (first + j)) l (slice_index old j) (slice_index masks j)

module _ (round : Round) where
  -- they are kept for both sides of a kind
  pub record AreLeadsOf (kind : Kind) (leads : Leads) : Type 0 where
    pub upper : leads.upper.now ≡ trunk_in round.trunks.now.trunks kind true
    pub lower : leads.lower.now ≡ trunk_in round.trunks.now.trunks kind false

  -- both sides of a kind; from a trail's end on no candidate of the kind violates the level's volume
  pub record AreTrailsOf (kind : Kind) (trails : Trails) : Type 0 where
    pub upper : (z : ℤ) → IsTrailAt round (lead_of (own_in round) (candidate_to kind z) true) trails.upper
    pub lower : (z : ℤ) → IsTrailAt round (lead_of (own_in round) (candidate_to kind z) false) trails.lower
    pub past_upper : (z : ℤ) → IsClearFrom round (candidate_to kind z) trails.upper.end
    pub past_lower : (z : ℤ) → IsClearFrom round (candidate_to kind z) trails.lower.end

  -- the branch of a candidate of the kind
  pub record IsBranchIn (kind : Kind) (candidate : Candidate) (branch : Branch) : Type 0 where
    pub value : ℤ
    pub is : candidate ≡ candidate_to kind value
    pub in_range : IsCandidateInRange candidate
    pub branch_of : IsBranchOf (own_in round) (rates_of (settings_in round)) candidate branch

  -- the level was added to the masks before number `upto`, and the ones before it to all
  abbrev pub AreMarkedUpto : (first upto : ℕ) (old masks : List ℕ) → Type 0
  AreMarkedUpto first upto old masks = AreMarked (settings_in round) (own_in round) (aircraft_in round) first upto round.l old masks

  -- the level was added to the mask of the candidate at an index
  abbrev pub AddsNext : (index mask new : ℕ) → Type 0
  AddsNext index mask new = (old : ℕ) → AddsLevels (MeetsListed (settings_in round) (own_in round) (aircraft_in round) index) (round.l - 1) old mask
      → AddsLevels (MeetsListed (settings_in round) (own_in round) (aircraft_in round) index) round.l old new
