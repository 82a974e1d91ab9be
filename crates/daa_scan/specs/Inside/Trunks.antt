-- How far the flights that lead have to be kept.
use Rattle.std.specs.Prelude.{◌≡◌, ℕ, ℤ, ◌<◌, ◌≤◌, IsTrue, List, length, Some, slice_get, slice_index_or}
use Rattle.daa_config.specs.declared.candidate.Candidate.{Candidate}
use Rattle.daa_config.specs.declared.kind.Kind.{Kind}
use Rattle.daa_config.specs.declared.level.Level.{Level}
use Rattle.daa_config.specs.Candidates.{candidate_to, candidates_of}
use Rattle.daa_config.specs.Settings.{Settings, IsLevelAt, rates_of}
use Rattle.daa_state.specs.declared.word.Own.{Own}
use Rattle.daa_legs.specs.declared.branch.Branch.{Branch}
use Rattle.daa_legs.specs.declared.own_leg.OwnLeg.{OwnLeg}
use Rattle.daa_legs.specs.Table.{IsBranchOf}
use Rattle.daa_scan.specs.Trunks.{is_needed, AreLeads, AreBranchesOf}
use Rattle.daa_scan.specs.declared.needs.Needs.{Needs}

-- the legs of the flights that lead, the candidates' branches, and of which kinds there are any
pub record Shared : Type 0 where
  pub trunks : List (List OwnLeg)
  pub branches : List Branch
  pub needs : Needs

-- none of the first n levels looks farther ahead
abbrev pub IsAhead : Settings → (n most : ℕ) → Type 0
IsAhead settings n most = (l : ℕ) (level : Level) → l ≤ n → IsLevelAt settings l level → level.lookahead ≤ most

-- the flights that lead and the candidates' branches
pub record AreTrunksOf (settings : Settings) (own : Own) (shared : Shared) : Type 0 where
  pub leads : AreLeads settings own shared.needs shared.trunks
  pub branches : AreBranchesOf settings own shared.needs shared.branches

-- the first candidates have their branches, if they are of a kind that is needed
pub record AreBranchesBelow (settings : Settings) (own : Own) (needs : Needs) (upto : ℕ) (branches : List Branch) : Type 0 where
  pub room : length (candidates_of settings) ≤ length branches
  pub each : (i : ℕ) (candidate : Candidate) (d : Branch) → i < upto → slice_get (candidates_of settings) i ≡ Some candidate → (kind : Kind) (z : ℤ) → candidate ≡ candidate_to kind z → IsTrue (is_needed needs kind)
      → IsBranchOf own (rates_of settings) candidate (slice_index_or branches i d)
