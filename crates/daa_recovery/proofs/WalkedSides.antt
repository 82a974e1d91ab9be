-- A side of a kind, one leg more.
use Rattle.std.proofs.Common.{◌≡◌, ◌↔◌, ap, min, None, ℕ, ◌+◌, ◌<◌, ◌≤◌, Bool, true, false, refl, sym, subst, ◌∙◌, arith, ⊎_elim}
use Rattle.std.specs.Prelude.{slice_index_or, IsTrue}
use Rattle.std.proofs.lemmas.Bool.{cases_lt}
use Rattle.std.proofs.lemmas.List.{get_or-set_same, get_or-set_other, length-set}
use Rattle.std.proofs.Math.ListN.{set}
use Rattle.daa_fixed.specs.declared.Leg.{Leg}
use Rattle.daa_fixed.specs.Time.{HoldsSometime}
use Rattle.daa_config.specs.declared.candidate.Candidate.{Candidate}
use Rattle.daa_config.specs.declared.level.Level.{Level}
use Rattle.daa_config.specs.Settings.{rates_of}
use Rattle.daa_state.specs.declared.word.Traffic.{Traffic}
use Rattle.daa_legs.specs.declared.own_leg.OwnLeg.{OwnLeg}
use Rattle.daa_legs.specs.declared.branch.Branch.{Branch}
use Rattle.daa_legs.specs.Branch.{FliesAs, lead_of}
use Rattle.daa_legs.specs.Table.{IsBranchOf}
use Rattle.daa_legs.specs.OwnLeg.{own_leg, place_on, IsOwnLegInRange}
use Rattle.daa_legs.specs.Relative.{relative_for}
use Rattle.daa_legs.specs.Violating.{ViolatesBy}
use Rattle.daa_legs.specs.Meeting.{ViolatesOn}
use Rattle.daa_meet.proofs.Keeping.{kept_is, kept-in_range}
use Rattle.daa_recovery.specs.OutlookState.{OutlookState}
use Rattle.daa_recovery.specs.Inside.Legs.{IsNear, IsLastBefore}
use Rattle.daa_recovery.specs.Inside.Search.{IsLeastTime}
use Rattle.daa_recovery.specs.Inside.Sides.{IsSide}
use Rattle.daa_recovery.specs.declared.side.Side.{Side}
use Rattle.daa_recovery.proofs.Horizons.{horizon_short}
use Rattle.daa_recovery.proofs.LastLegs.{near_never, near_alike, last_alike}
use Rattle.daa_recovery.proofs.StraightRests.{flies_as_lead, leaves_there}

module _ (p : OutlookState) where
  pub side_short : (side : Side) → IsSide p side → p.horizon ≤ 180
  side_short side h = horizon_short p.settings p.horizon h.known.accepted h.known.horizon

  -- a leg that is kept
  pub side_leg : (side : Side) (leg : OwnLeg) → IsSide p side → side.walked < p.horizon → ((d : OwnLeg) → slice_index_or side.legs side.walked d ≡ leg)
      → leg ≡ own_leg p.picture.own (rates_of p.settings) side.lead side.walked
  side_leg side leg h left e = kept_is p.picture.own (rates_of p.settings) side.lead p.horizon side.walked side.legs leg h.legs left e

  pub side_leg-in_range : (side : Side) (leg : OwnLeg) → IsSide p side → side.walked < p.horizon → ((d : OwnLeg) → slice_index_or side.legs side.walked d ≡ leg) → IsOwnLegInRange leg
  side_leg-in_range side leg h left e =
      kept-in_range p.picture.own (rates_of p.settings) side.lead p.horizon side.walked side.legs leg h.legs left (side_short side h) e h.known.picture.own h.known.accepted.rates h.in_range

  -- the next leg comes into a cylinder
  pub side_struck : (side : Side) → IsSide p side → IsNear p side.lead side.walked → IsSide p (record side { struck = true })
  side_struck side h near = record { known = h.known; in_range = h.in_range; legs = h.legs; within = h.within; room = h.room; each = h.each; struck = λ _. near }

  -- one leg more was walked
  pub side_walked : (side : Side) (next : ℕ) → IsSide p side → side.struck ≡ false → side.walked < p.horizon → IsLastBefore p side.lead (side.walked + 1) next
      → IsSide p (record side { lasts = set side.lasts (side.walked + 1) next; walked = side.walked + 1 })
  side_walked side next h clear left is = record {
    known = h.known;
    in_range = h.in_range;
    legs = h.legs;
    within = omega (arith, left);
    room = length-set side.lasts (side.walked + 1) next ∙ h.room;
    each = λ k d le. ⊎_elim
        (λ lt. subst (IsLastBefore p side.lead k) (sym (get_or-set_other side.lasts (side.walked + 1) k next d (omega (arith, lt)))) (h.each k d (omega (arith, lt))))
        (λ ge.
        let same : side.walked + 1 ≡ k = omega (arith, le, ge) in
        subst (λ (j : ℕ). IsLastBefore p side.lead j (slice_index_or (set side.lasts (side.walked + 1) next) j d)) same
        (subst (IsLastBefore p side.lead (side.walked + 1))
        (sym (get_or-set_same side.lasts (side.walked + 1) next d (let r = h.room in let short = side_short side h in omega (arith, left, short, r)))) is))
        (cases_lt k (side.walked + 1));
    struck = λ t. absurd (cc (t, clear));
  }

-- a test of a leg at one level
pub before_tested : (p : OutlookState) (candidate : Candidate) (aircraft : Traffic) (level : Level) (k : ℕ) (leg : OwnLeg) (seen : Leg) (b : Bool)
    → leg ≡ own_leg p.picture.own (rates_of p.settings) candidate k → seen ≡ relative_for 1 leg aircraft k
    → IsTrue b ↔ ((k < level.lookahead) × HoldsSometime seen.secs (ViolatesBy aircraft k seen level.volume))
    → IsTrue b ↔ ((k < level.lookahead) × ViolatesOn p.settings p.picture.own candidate aircraft level.volume k)
unfolding relative_for
before_tested p candidate aircraft level k leg seen b e r h =
    subst (λ (l : Leg). IsTrue b ↔ ((k < level.lookahead) × HoldsSometime l.secs (ViolatesBy aircraft k l level.volume))) (r ∙ ap (λ (l : OwnLeg). relative_for 1 l aircraft k) e) h

-- a walk that ended too early ended in a cylinder
pub walked_struck : (p : OutlookState) (side : Side) (upto : ℕ) → IsSide p side → (side.struck ≡ false → upto ≤ side.walked) → side.walked < upto → IsNear p side.lead side.walked
walked_struck p side upto h done lt = go side.struck refl
  where
    go : (b : Bool) → side.struck ≡ b → IsNear p side.lead side.walked
    go true e = h.struck e
    go false e = let d = done e in absurd (omega (arith, lt, d))

-- ---- a candidate that leaves the flight that leads on its side

module _ (p : OutlookState) (side : Side) (h : IsSide p side) (candidate : Candidate) (branch : Branch) (is : IsBranchOf p.picture.own (rates_of p.settings) candidate branch)
    (leads : side.lead ≡ lead_of p.picture.own candidate branch.upper) (leaves : ℕ) (least : leaves ≡ min branch.leaves p.horizon) where
  alike : FliesAs p.picture.own (rates_of p.settings) candidate side.lead branch.leaves
  alike = flies_as_lead p.picture.own (rates_of p.settings) candidate side.lead branch leads is

  -- the walk ended before it leaves
  pub leaves_never : (bound : ℕ) → (side.struck ≡ false → leaves ≤ side.walked) → side.walked < leaves → IsLeastTime p candidate bound None
  leaves_never bound done lt =
      near_never p candidate side.walked bound (omega (arith, least, lt))
      (near_alike p candidate side.lead branch.leaves alike side.walked (omega (arith, least, lt)) (walked_struck p side leaves h done lt))

  -- its last closed leg before it leaves is that of the flight that leads
  pub leaves_last : (d : ℕ) → leaves ≤ side.walked → IsLastBefore p candidate leaves (slice_index_or side.lasts leaves d)
  leaves_last d le = last_alike p candidate side.lead branch.leaves alike leaves (slice_index_or side.lasts leaves d) (omega (arith, least)) (h.each leaves d le)

  -- where it leaves before the horizon
  pub leaves_there-before : leaves < p.horizon → leaves ≡ branch.leaves
  leaves_there-before lt = omega (arith, least, lt)

  pub leaves_place : (leg : OwnLeg) → leaves < p.horizon → ((d : OwnLeg) → slice_index_or side.legs leaves d ≡ leg) → leg.place ≡ place_on p.picture.own (rates_of p.settings) candidate branch.leaves
  leaves_place leg lt e =
      let same = leaves_there-before lt in
      subst (λ (n : ℕ). leg.place ≡ place_on p.picture.own (rates_of p.settings) candidate n) same
      (leaves_there p.picture.own (rates_of p.settings) candidate side.lead leaves p.horizon side.legs leg
      (record { same = λ k b. alike.same k (omega (arith, b, same)) }) h.legs lt e)
