-- A run in the making.
use Rattle.std.proofs.Common.{◌≡◌, ℕ, ◌+◌, ◌<◌, below_more, ap, sym, ◌∙◌, arith}
use Rattle.daa_legs.specs.FlightState.{FlightState}
use Rattle.daa_legs.specs.declared.own_leg.OwnLeg.{OwnLeg}
use Rattle.daa_legs.specs.Motion.{velocity_on}
use Rattle.daa_legs.specs.OwnLeg.{own_leg, IsOwnLegInRange}

-- so many legs were taken, all with the first one's velocity
pub record IsRunning (begun now : FlightState) (first : OwnLeg) (secs : ℕ) : Type 0 where
  pub at : now ≡ record begun { taken = begun.taken + secs }
  pub leg : first ≡ own_leg begun.own begun.rates begun.candidate begun.taken
  pub in_range : IsOwnLegInRange first
  pub same : (j : ℕ) → j < secs → velocity_on begun.own begun.rates begun.candidate (begun.taken + j) ≡ first.velocity

module _ (begun : FlightState) (first : OwnLeg) where
  pub running_start : (now : FlightState) → now ≡ record begun { taken = begun.taken + 1 } → first ≡ own_leg begun.own begun.rates begun.candidate begun.taken
      → IsOwnLegInRange first → IsRunning begun now first 1
  running_start now e l r = record {
    at = e;
    leg = l;
    in_range = r;
    same = λ j h. ap (velocity_on begun.own begun.rates begun.candidate) (only j h) ∙ sym (ap (λ (l : OwnLeg). l.velocity) l);
  }
    where
      only : (j : ℕ) → j < 1 → begun.taken + j ≡ begun.taken
      only j h = omega (arith, h)

  -- the next leg's velocity, where the flight stands
  pub running_ahead : (now : FlightState) (secs : ℕ) → IsRunning begun now first secs
      → velocity_on now.own now.rates now.candidate now.taken ≡ velocity_on begun.own begun.rates begun.candidate (begun.taken + secs)
  running_ahead now secs r = ap (λ (c : FlightState). velocity_on c.own c.rates c.candidate c.taken) r.at

  pub running_next : (now new : FlightState) (secs : ℕ) → IsRunning begun now first secs → new ≡ record now { taken = now.taken + 1 }
      → velocity_on now.own now.rates now.candidate now.taken ≡ first.velocity → IsRunning begun new first (secs + 1)
  running_next now new secs r e v = record {
    at = e ∙ ap (λ (c : FlightState). record c { taken = c.taken + 1 }) r.at ∙ ap (λ (n : ℕ). record begun { taken = n }) one;
    leg = r.leg;
    in_range = r.in_range;
    same = below_more _ _ r.same (sym (running_ahead now secs r) ∙ v);
  }
    where
      one : begun.taken + secs + 1 ≡ begun.taken + (secs + 1)
      one = omega arith
