-- How far the flight that leads on a side was walked against an aircraft and a volume.
use Rattle.std.specs.Prelude.{ℕ, ◌≡◌, ◌-◌, ◌<◌, ◌≤◌, ◌^◌, IsTrue, false, List}
use Rattle.daa_taumod.specs.declared.Volume.{Volume}
use Rattle.daa_config.specs.declared.candidate.Candidate.{Candidate}
use Rattle.daa_config.specs.Settings.{Settings, IsCandidateInRange, rates_of}
use Rattle.daa_state.specs.declared.word.Own.{Own}
use Rattle.daa_state.specs.declared.word.Traffic.{Traffic}
use Rattle.daa_legs.specs.Meeting.{ViolatesOn}
use Rattle.daa_legs.specs.declared.branch.Branch.{Branch}
use Rattle.daa_legs.specs.declared.own_leg.OwnLeg.{OwnLeg}
use Rattle.daa_legs.specs.Branch.{lead_of}
use Rattle.daa_legs.specs.Table.{IsBranchOf}
use Rattle.daa_legs.specs.Trunk.{AreLegsOf}
use Rattle.daa_scan.specs.declared.encounter.Round.{Round}
use Rattle.daa_scan.specs.declared.trail.Trail.{Trail}
use Rattle.daa_scan.specs.Inside.Rounds.{settings_in, own_in, aircraft_in, IsClearFrom}

-- none of the legs walked violates, and where there is a hit the next one does; from its end on none does
pub record IsTrailOf (settings : Settings) (own : Own) (lead : Candidate) (aircraft : Traffic) (volume : Volume) (trail : Trail) : Type 0 where
  pub none : (j : ℕ) → j < trail.walked → ¬ ViolatesOn settings own lead aircraft volume j
  pub hit : IsTrue trail.hit → ViolatesOn settings own lead aircraft volume trail.walked
  pub later : (j : ℕ) → j < 180 → trail.end ≤ j → ¬ ViolatesOn settings own lead aircraft volume j

-- a candidate that leaves after leg `past` does so after the hit; or, where there is none, no leg within the lookahead that was not
-- walked may violate, and none from that one on which it leaves
pub record IsSure (lookahead : ℕ) (trail : Trail) : Type 0 where
  pub hit : IsTrue trail.hit → (n : ℕ) → trail.past < n → n < 2 ^ 32 → (trail.walked < n) × (trail.walked < lookahead)
  pub clear : trail.hit ≡ false → (n k : ℕ) → trail.past < n → n < 2 ^ 32 → k < lookahead → (trail.walked ≤ k → trail.end ≤ k) × (n ≤ k → trail.end ≤ k)

-- its answer is level l where there is a hit
pub record AnswersBy (l : ℕ) (trail : Trail) : Type 0 where
  pub hit : IsTrue trail.hit → trail.answer ≡ 2 ^ (l - 1)
  pub clear : trail.hit ≡ false → trail.answer ≡ 0

-- the trail along the flight that leads, in a round
pub record IsTrailAt (round : Round) (lead : Candidate) (trail : Trail) : Type 0 where
  pub along : IsTrailOf (settings_in round) (own_in round) lead (aircraft_in round) round.level.volume trail
  pub sure : IsSure round.level.lookahead trail
  pub answers : AnswersBy round.l trail

-- and from its end on the candidate, which leaves that flight, violates nothing either
pub record IsTrailFor (round : Round) (lead candidate : Candidate) (trail : Trail) : Type 0 where
  pub at : IsTrailAt round lead trail
  pub later : IsClearFrom round candidate trail.end

-- these are the legs of the flight that leads, as far as the level looks ahead
pub record IsLed (round : Round) (lead : Candidate) (legs : List OwnLeg) : Type 0 where
  pub in_range : IsCandidateInRange lead
  pub legs_of : AreLegsOf (own_in round) (rates_of (settings_in round)) lead round.level.lookahead legs

-- the candidate's branch, which leaves the flight that leads on its side
pub record IsBranchBy (round : Round) (lead candidate : Candidate) (branch : Branch) : Type 0 where
  pub in_range : IsCandidateInRange candidate
  pub leads : lead ≡ lead_of (own_in round) candidate branch.upper
  pub branch_of : IsBranchOf (own_in round) (rates_of (settings_in round)) candidate branch
