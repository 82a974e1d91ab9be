-- The flights that lead on the two sides of each kind, and the branches of the candidates, kept where they are needed.
use Rattle.std.specs.Prelude.{◌≡◌, ◌≤◌, ℕ, ℤ, Bool, IsTrue, true, false, List, [], Some, length, slice_get, slice_index_or}
use Rattle.daa_config.specs.declared.kind.Kind.{Kind}
use Rattle.daa_config.specs.declared.kind.Kind.TheVariants.{Track, GroundSpeed, VerticalSpeed, Altitude}
use Rattle.daa_config.specs.declared.level.Level.{Level}
use Rattle.daa_config.specs.declared.candidate.Candidate.{Candidate}
use Rattle.daa_config.specs.Candidates.{candidate_to, candidates_of}
use Rattle.daa_config.specs.Settings.{Settings, IsLevelAt, rates_of}
use Rattle.daa_state.specs.declared.word.Own.{Own}
use Rattle.daa_legs.specs.declared.branch.Branch.{Branch}
use Rattle.daa_legs.specs.declared.own_leg.OwnLeg.{OwnLeg}
use Rattle.daa_legs.specs.Branch.{lead_of}
use Rattle.daa_legs.specs.Trunk.{AreLegsOf}
use Rattle.daa_legs.specs.Meeting.{MeetsWithin}
use Rattle.daa_legs.specs.Table.{IsBranchOf}
use Rattle.daa_state.specs.declared.word.Picture.{Picture}
use Rattle.daa_state.specs.Picture.{aircraft_of}
use Rattle.daa_state.specs.declared.word.Traffic.{Traffic}
use Rattle.daa_scan.specs.Reach.{IsInReach}
use Rattle.daa_scan.specs.declared.needs.Needs.{Needs}

-- whether the flights of a kind are needed
abbrev pub is_needed : Needs → Kind → Bool
is_needed needs Track = needs.turns
is_needed needs GroundSpeed = needs.turns
is_needed needs VerticalSpeed = needs.climbs
is_needed needs Altitude = needs.climbs

-- where the legs of a side of a kind are kept
abbrev pub trunk_index : Kind → (upper : Bool) → ℕ
trunk_index Track true = 0
trunk_index Track false = 1
trunk_index GroundSpeed true = 2
trunk_index GroundSpeed false = 3
trunk_index VerticalSpeed true = 4
trunk_index VerticalSpeed false = 5
trunk_index Altitude true = 6
trunk_index Altitude false = 7

-- the legs kept for a side of a kind
abbrev pub trunk_in : List (List OwnLeg) → Kind → (upper : Bool) → List OwnLeg
trunk_in trunks kind upper = slice_index_or trunks (trunk_index kind upper) []

-- those of the kinds that are needed are the flights that lead, as far as any level looks ahead
abbrev pub AreLeads : Settings → Own → Needs → (trunks : List (List OwnLeg)) → Type 0
AreLeads settings own needs trunks = (l : ℕ) (level : Level) → IsLevelAt settings l level → (kind : Kind) (upper : Bool) (z : ℤ) → IsTrue (is_needed needs kind)
    → AreLegsOf own (rates_of settings) (lead_of own (candidate_to kind z) upper) level.lookahead (trunk_in trunks kind upper)

-- each candidate of such a kind has its branch, by the candidate's number
pub record AreBranchesOf (settings : Settings) (own : Own) (needs : Needs) (branches : List Branch) : Type 0 where
  pub room : length (candidates_of settings) ≤ length branches
  pub each : (i : ℕ) (candidate : Candidate) (d : Branch) → slice_get (candidates_of settings) i ≡ Some candidate → (kind : Kind) (z : ℤ)
      → candidate ≡ candidate_to kind z → IsTrue (is_needed needs kind)
      → IsBranchOf own (rates_of settings) candidate (slice_index_or branches i d)

-- no candidate of a kind that is not needed meets the aircraft at any level
abbrev pub AreIdle : Settings → Own → Traffic → Needs → Type 0
AreIdle settings own aircraft needs = (kind : Kind) → is_needed needs kind ≡ false → (l : ℕ) (level : Level) → IsLevelAt settings l level → (z : ℤ)
    → ¬ MeetsWithin settings own (candidate_to kind z) aircraft level.volume level.lookahead

-- the flights of a kind are kept, or it meets none of the moment's aircraft in reach
pub record AreFlightsOf (settings : Settings) (picture : Picture) (needs : Needs) (trunks : List (List OwnLeg)) (table : List Branch) : Type 0 where
  pub leads : AreLeads settings picture.own needs trunks
  pub branches : AreBranchesOf settings picture.own needs table
  pub idle : (at : ℕ) (aircraft : Traffic) → slice_get (aircraft_of picture) at ≡ Some aircraft → IsInReach settings picture.own aircraft → AreIdle settings picture.own aircraft needs
