-- What the candidates on one side of a kind share.
use Rattle.std.specs.Prelude.{ℕ, ℤ, ◌≡◌, ◌+◌, ◌<◌, true, false}
use Rattle.daa_fixed.specs.declared.Solid.{Solid}
use Rattle.daa_fixed.specs.Leg.{plus, minus}
use Rattle.daa_config.specs.declared.config.Rates.{Rates}
use Rattle.daa_config.specs.declared.candidate.Candidate.{Candidate}
use Rattle.daa_config.specs.declared.kind.Kind.{Kind}
use Rattle.daa_config.specs.Candidates.{candidate_to}
use Rattle.daa_config.specs.Settings.{Settings, IsCandidateInRange}
use Rattle.daa_state.specs.declared.word.Own.{Own}
use Rattle.daa_state.specs.declared.word.Picture.{Picture}
use Rattle.daa_legs.specs.Branch.{lead_of}
use Rattle.daa_legs.specs.Trunk.{AreLegsOf}
use Rattle.daa_last.specs.Inside.Search.{IsStruck}
use Rattle.daa_last.specs.declared.side.Side.{Side}
use Rattle.daa_last.specs.declared.side.Sides.{Sides}
use Rattle.daa_last.specs.declared.side.Walk.{Walk}
use Rattle.daa_last.specs.declared.side.Walks.{Walks}

-- a place of a flight that is begun now, where it is begun elsewhere
unfoldable pub moved : (place start here : Solid) → Solid
moved place start here = minus (plus place start) here

module _ (own : Own) (rates : Rates) (horizon : ℕ) where
  -- the legs of the flight that leads are kept up to the horizon
  pub record IsSide (side : Side) : Type 0 where
    pub in_range : IsCandidateInRange side.lead
    pub legs : AreLegsOf own rates side.lead horizon side.legs

  -- both sides of a kind
  pub record AreSides (kind : Kind) (sides : Sides) : Type 0 where
    pub upper : IsSide sides.upper
    pub lower : IsSide sides.lower
    pub upper_leads : (z : ℤ) → sides.upper.lead ≡ lead_of own (candidate_to kind z) true
    pub lower_leads : (z : ℤ) → sides.lower.lead ≡ lead_of own (candidate_to kind z) false

module _ (settings : Settings) (picture : Picture) (m : ℕ) where
  -- of the flight that leads, delayed by m: none of the legs that were walked is struck; and the blocked one is
  pub record IsWalk (lead : Candidate) (walk : Walk) : Type 0 where
    pub clear : (j : ℕ) → j < walk.walked → ¬ IsStruck settings picture lead m (m + j)
    pub blocked : walk.blocked < 180 → IsStruck settings picture lead m (m + walk.blocked)

  pub record AreWalks (sides : Sides) (walks : Walks) : Type 0 where
    pub upper : IsWalk sides.upper.lead walks.upper
    pub lower : IsWalk sides.lower.lead walks.lower
