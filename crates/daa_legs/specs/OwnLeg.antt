-- The ownship's legs: on each second of a candidate's flight one velocity, flown straight.
use Rattle.std.specs.Prelude.{ℕ, pos, ◌*ℤ◌}
use Rattle.daa_fixed.specs.declared.Solid.{Solid}
use Rattle.daa_fixed.specs.Leg.{plus, sum_below, IsSolidBelow}
use Rattle.daa_config.specs.declared.config.Rates.{Rates}
use Rattle.daa_config.specs.declared.candidate.Candidate.{Candidate}
use Rattle.daa_state.specs.declared.word.Own.{Own}
use Rattle.daa_legs.specs.declared.own_leg.OwnLeg.{OwnLeg}
use Rattle.daa_legs.specs.Motion.{velocity_on}

-- where the ownship is now, in units: 36 for a thousandth of a nautical mile, and 60 for a foot
abbrev pub own_place : Own → Solid
own_place own = record { flat = record { east = pos 36 *ℤ own.x; north = pos 36 *ℤ own.y }; up = pos 60 *ℤ own.alt }

module _ (own : Own) (rates : Rates) where
  -- where it is at the beginning of leg k: the place now, and the velocities of the legs before k
  unfoldable pub place_on : Candidate → ℕ → Solid
  place_on candidate k = plus (own_place own) (sum_below (velocity_on own rates candidate) k)

  -- leg k of the candidate's flight
  abbrev pub own_leg : Candidate → ℕ → OwnLeg
  own_leg candidate k = record { place = place_on candidate k; velocity = velocity_on own rates candidate k }

-- the place below 20000000 and the velocity below 20000 in size on each axis
pub record IsOwnLegInRange (leg : OwnLeg) : Type 0 where
  pub place : IsSolidBelow 20000000 leg.place
  pub velocity : IsSolidBelow 20000 leg.velocity
