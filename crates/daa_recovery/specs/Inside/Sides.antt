-- What the candidates on one side of a kind share, and the straight rest of one candidate's flight.
use Rattle.std.specs.Prelude.{ℕ, ℤ, ◌≡◌, ◌≤◌, IsTrue, true, false, length, slice_index_or}
use Rattle.daa_config.specs.declared.candidate.Candidate.{Candidate}
use Rattle.daa_config.specs.declared.kind.Kind.{Kind}
use Rattle.daa_config.specs.Candidates.{candidate_to}
use Rattle.daa_config.specs.Settings.{IsCandidateInRange, rates_of}
use Rattle.daa_legs.specs.Branch.{lead_of, velocity_there, FliesOn}
use Rattle.daa_legs.specs.OwnLeg.{place_on}
use Rattle.daa_legs.specs.Trunk.{AreLegsOf}
use Rattle.daa_recovery.specs.OutlookState.{OutlookState}
use Rattle.daa_recovery.specs.Inside.OutlookState.{IsOutlook}
use Rattle.daa_recovery.specs.Inside.Legs.{IsNear, IsLastBefore}
use Rattle.daa_recovery.specs.declared.side.Side.{Side}
use Rattle.daa_recovery.specs.declared.side.Sides.{Sides}
use Rattle.daa_recovery.specs.declared.rest.Rest.{Rest}

module _ (p : OutlookState) where
  -- of an outlook: the legs of the flight that leads are kept up to the horizon; for each leg that was walked, and for the next one, the last closed
  -- leg before it is known; and if the walk ended in a cylinder, the next leg comes into it
  pub record IsSide (side : Side) : Type 0 where
    pub known : IsOutlook p
    pub in_range : IsCandidateInRange side.lead
    pub legs : AreLegsOf p.picture.own (rates_of p.settings) side.lead p.horizon side.legs
    pub within : side.walked ≤ p.horizon
    pub room : length side.lasts ≡ 181
    pub each : (k d : ℕ) → k ≤ side.walked → IsLastBefore p side.lead k (slice_index_or side.lasts k d)
    pub struck : IsTrue side.struck → IsNear p side.lead side.walked

  -- the flights that lead on both sides are those that the candidate leaves
  pub record IsLedBy (sides : Sides) (candidate : Candidate) : Type 0 where
    pub upper : sides.upper.lead ≡ lead_of p.picture.own candidate true
    pub lower : sides.lower.lead ≡ lead_of p.picture.own candidate false

  -- both sides of a kind
  pub record AreSides (kind : Kind) (sides : Sides) : Type 0 where
    pub upper : IsSide sides.upper
    pub lower : IsSide sides.lower
    pub leads : (z : ℤ) → IsLedBy sides (candidate_to kind z)

  -- of an outlook: from leg `from` on, where it is at this place, the candidate keeps one velocity
  pub record IsRestOf (candidate : Candidate) (rest : Rest) : Type 0 where
    pub known : IsOutlook p
    pub in_range : IsCandidateInRange candidate
    pub within : rest.from ≤ p.horizon
    pub at : rest.place ≡ place_on p.picture.own (rates_of p.settings) candidate rest.from
    pub velocity : rest.velocity ≡ velocity_there p.picture.own candidate
    pub on : FliesOn p.picture.own (rates_of p.settings) candidate rest.from
