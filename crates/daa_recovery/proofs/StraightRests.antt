-- The straight rest of a flight: where it is, and a test of it.
use Rattle.std.proofs.Common.{◌≡◌, ◌↔◌, ℕ, ◌+◌, ◌-◌, ◌<◌, ◌≤◌, pos, Bool, List, ap, sym, subst, ◌∙◌, arith}
use Rattle.std.specs.Prelude.{IsTrue, slice_index_or}
use Rattle.daa_fixed.specs.declared.Solid.{Solid}
use Rattle.daa_fixed.specs.Leg.{IsSolidBelow, plus, times}
use Rattle.daa_taumod.specs.declared.Volume.{Volume}
use Rattle.daa_config.specs.declared.candidate.Candidate.{Candidate}
use Rattle.daa_config.specs.declared.config.Rates.{Rates}
use Rattle.daa_config.specs.Settings.{rates_of, IsCandidateInRange}
use Rattle.daa_state.specs.declared.word.Own.{Own}
use Rattle.daa_state.specs.declared.word.Traffic.{Traffic}
use Rattle.daa_legs.specs.declared.own_leg.OwnLeg.{OwnLeg}
use Rattle.daa_legs.specs.declared.branch.Branch.{Branch}
use Rattle.daa_legs.specs.Branch.{FliesAs, lead_of, velocity_there}
use Rattle.daa_legs.specs.OwnLeg.{place_on, own_leg, IsOwnLegInRange}
use Rattle.daa_legs.specs.Table.{IsBranchOf}
use Rattle.daa_legs.specs.Trunk.{AreLegsOf}
use Rattle.daa_legs.specs.Runs.{IsRunOf, IsOwnRunInRange, MeetsBetween}
use Rattle.daa_legs.proofs.Branching.{straight_run, place_alike}
use Rattle.daa_legs.proofs.Places.{place-next, place_on-below, velocity_on-below}
use Rattle.daa_legs.proofs.Stretches.{place_within}
use Rattle.daa_meet.proofs.Keeping.{kept_is, own_leg-in_range, straight_later}
use Rattle.daa_recovery.specs.OutlookState.{OutlookState}
use Rattle.daa_recovery.specs.Inside.OutlookState.{IsOutlook}
use Rattle.daa_recovery.specs.Inside.Sides.{IsRestOf}
use Rattle.daa_recovery.specs.declared.rest.Rest.{Rest}
use Rattle.daa_recovery.proofs.Horizons.{horizon_short}

module _ (p : OutlookState) (candidate : Candidate) (rest : Rest) (is : IsRestOf p candidate rest) where
  -- where it is at leg k
  pub rest_place : (k : ℕ) → rest.from ≤ k → plus rest.place (times (pos (k - rest.from)) rest.velocity) ≡ place_on p.picture.own (rates_of p.settings) candidate k
  rest_place k le =
      let j : ℕ = k - rest.from in
      let whole : rest.from + (k - rest.from) ≡ k = omega (arith, le) in
      let run = straight_run p.picture.own (rates_of p.settings) candidate rest.from j is.on in
      let there = place_within p.picture.own (rates_of p.settings) candidate rest.from
      (record { place = place_on p.picture.own (rates_of p.settings) candidate rest.from; velocity = velocity_there p.picture.own candidate; secs = j }) run j (omega arith) in
      (λ i. plus (is.at i) (times (pos (k - rest.from)) (is.velocity i))) ∙ sym there ∙ ap (place_on p.picture.own (rates_of p.settings) candidate) whole

  pub rest_short : p.horizon ≤ 180
  rest_short = horizon_short p.settings p.horizon is.known.accepted is.known.horizon

  pub rest_small : IsSolidBelow 20000000 rest.place
  rest_small = subst (λ (x : Solid). IsSolidBelow 20000000 x) (sym is.at)
      (place_on-below p.picture.own (rates_of p.settings) candidate is.known.picture.own is.known.accepted.rates is.in_range rest.from (let w = is.within in let s = rest_short in omega (arith, w, s)))

  pub rest_slow : IsSolidBelow 20000 rest.velocity
  rest_slow = subst (λ (x : Solid). IsSolidBelow 20000 x) (is.on.there rest.from (omega arith) ∙ sym is.velocity)
      (velocity_on-below p.picture.own (rates_of p.settings) candidate is.known.picture.own is.known.accepted.rates is.in_range rest.from)

  -- its run from leg k on is in range
  pub rest_run-in_range : (k secs : ℕ) (place : Solid) → k ≤ 180 → 1 ≤ secs → place ≡ place_on p.picture.own (rates_of p.settings) candidate k
      → IsOwnRunInRange (record { place = place; velocity = rest.velocity; secs = secs })
  rest_run-in_range k secs place short some e = record {
    leg = record {
      place = subst (λ (x : Solid). IsSolidBelow 20000000 x) (sym e) (place_on-below p.picture.own (rates_of p.settings) candidate is.known.picture.own is.known.accepted.rates is.in_range k short);
      velocity = rest_slow;
    };
    some = some;
  }

  -- a test of it
  pub run_tested : (aircraft : Traffic) (volume : Volume) (k secs upto : ℕ) (place : Solid) (hit : Bool) → rest.from ≤ k → k + secs ≡ upto
      → place ≡ place_on p.picture.own (rates_of p.settings) candidate k
      → (IsRunOf p.picture.own (rates_of p.settings) candidate k (record { place = place; velocity = rest.velocity; secs = secs })
      → IsTrue hit ↔ MeetsBetween p.settings p.picture.own candidate aircraft volume k (k + secs))
      → IsTrue hit ↔ MeetsBetween p.settings p.picture.own candidate aircraft volume k upto
  run_tested aircraft volume k secs upto place hit le whole e tests =
      let on = straight_later p.picture.own (rates_of p.settings) candidate rest.from k le is.on in
      subst (λ (n : ℕ). IsTrue hit ↔ MeetsBetween p.settings p.picture.own candidate aircraft volume k n) whole
      (tests (record { begins = e; same = λ j lt. on.there (k + j) (omega arith) ∙ sym is.velocity }))

module _ (own : Own) (rates : Rates) (candidate : Candidate) where
  -- the candidate leaves the flight that leads where that is
  pub leaves_there : (lead : Candidate) (n m : ℕ) (legs : List OwnLeg) (leg : OwnLeg) → FliesAs own rates candidate lead n → AreLegsOf own rates lead m legs → n < m
      → ((d : OwnLeg) → slice_index_or legs n d ≡ leg) → leg.place ≡ place_on own rates candidate n
  leaves_there lead n m legs leg alike h b k =
      ap (λ (l : OwnLeg). l.place) (kept_is own rates lead m n legs leg h b k) ∙ sym (place_alike own rates candidate lead n alike n (omega arith))

  -- it leaves the flight that leads on its side
  pub flies_as_lead : (lead : Candidate) (branch : Branch) → lead ≡ lead_of own candidate branch.upper → IsBranchOf own rates candidate branch → FliesAs own rates candidate lead branch.leaves
  flies_as_lead lead branch e is = subst (λ (x : Candidate). FliesAs own rates candidate x branch.leaves) (sym e) is.before

  -- a leg of its own, by its branch
  pub own_by_branch : (branch : Branch) (place : Solid) (leg : OwnLeg) → IsBranchOf own rates candidate branch → branch.leaves < branch.settles → branch.leaves < 180
      → place ≡ place_on own rates candidate branch.leaves → leg ≡ record { place = place; velocity = record { flat = branch.velocity.flat; up = branch.rise } }
      → leg ≡ own_leg own rates candidate branch.leaves
  own_by_branch branch place leg is later soon e l = l ∙ (λ i. record { place = e i; velocity = sym (is.rise later soon) i })

-- the rest of a branch without a leg of its own, and of one with such a leg
module _ (p : OutlookState) (known : IsOutlook p) (candidate : Candidate) (c : IsCandidateInRange candidate) (branch : Branch)
    (is : IsBranchOf p.picture.own (rates_of p.settings) candidate branch) where
  pub rest_at_once : (place : Solid) → branch.leaves < p.horizon → branch.settles ≤ branch.leaves → place ≡ place_on p.picture.own (rates_of p.settings) candidate branch.leaves
      → IsRestOf p candidate (record { from = branch.leaves; place = place; velocity = branch.velocity })
  rest_at_once place before none e = record {
    known = known;
    in_range = c;
    within = omega (arith, before);
    at = e;
    velocity = is.velocity;
    on = straight_later p.picture.own (rates_of p.settings) candidate branch.settles branch.leaves none is.after;
  }

  -- its own leg
  module _ (place : Solid) (leg : OwnLeg) (before : branch.leaves < p.horizon) (later : branch.leaves < branch.settles)
      (e : place ≡ place_on p.picture.own (rates_of p.settings) candidate branch.leaves)
      (l : leg ≡ record { place = place; velocity = record { flat = branch.velocity.flat; up = branch.rise } }) where
    pub own_short : branch.leaves < 180
    own_short = let s = horizon_short p.settings p.horizon known.accepted known.horizon in omega (arith, before, s)

    pub own_is : leg ≡ own_leg p.picture.own (rates_of p.settings) candidate branch.leaves
    own_is = own_by_branch p.picture.own (rates_of p.settings) candidate branch place leg is later own_short e l

    pub own_small : IsOwnLegInRange leg
    own_small = subst (λ (x : OwnLeg). IsOwnLegInRange x) (sym own_is)
        (own_leg-in_range p.picture.own (rates_of p.settings) candidate branch.leaves known.picture.own known.accepted.rates c (let s = own_short in omega (arith, s)))

    pub own_end : (end : Solid) → end ≡ plus leg.place leg.velocity → end ≡ place_on p.picture.own (rates_of p.settings) candidate (branch.leaves + 1)
    own_end end g = g ∙ ap (λ (x : OwnLeg). plus x.place x.velocity) own_is ∙ place-next p.picture.own (rates_of p.settings) candidate branch.leaves

  pub rest_after_own : (place : Solid) → branch.leaves < p.horizon → place ≡ place_on p.picture.own (rates_of p.settings) candidate (branch.leaves + 1)
      → IsRestOf p candidate (record { from = branch.leaves + 1; place = place; velocity = branch.velocity })
  rest_after_own place before e = record {
    known = known;
    in_range = c;
    within = omega (arith, before);
    at = e;
    velocity = is.velocity;
    on = straight_later p.picture.own (rates_of p.settings) candidate branch.settles (branch.leaves + 1) is.near.1 is.after;
  }
