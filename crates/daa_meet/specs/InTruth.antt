-- What may be violated in truth: the reports may err, and the truth may be anything that is within their bounds.
use Rattle.std.specs.Prelude.{ℕ, ℤ}
use Rattle.daa_fixed.specs.Time.{HoldsNever}
use Rattle.daa_fixed.specs.declared.Leg.{Leg}
use Rattle.daa_taumod.specs.declared.Volume.{Volume}
use Rattle.daa_taumod.specs.Volume.{Violates}
use Rattle.daa_margin.specs.ErrorBounds.{IsWithinErrors}
use Rattle.daa_state.specs.declared.word.Traffic.{Traffic}
use Rattle.daa_legs.specs.Errors.{errors_on}
use Rattle.daa_legs.specs.declared.own_leg.OwnLeg.{OwnLeg}
use Rattle.daa_legs.specs.Relative.{relative_for}

-- at n/d of a leg that begins at second k, as the reports have it, some truth violates the volume: a place and a velocity that differ
-- from the reported ones by no more than the reports may err by at that time. Before and after that time nothing is asked of the
-- truth, which may turn and accelerate.
pub record ViolatesInTruth (aircraft : Traffic) (k : ℕ) (leg : Leg) (volume : Volume) (n d : ℤ) : Type 0 where
  pub truth : Leg
  pub within : IsWithinErrors (errors_on aircraft.bounds aircraft.age k) truth leg n d
  pub violates : Violates truth volume n d

-- of a flight, given by the ownship's legs, each one second: leg k is clear in truth, since at no time of it a truth violates the volume
abbrev pub IsClearOn : (flight : ℕ → OwnLeg) → Traffic → Volume → ℕ → Type 0
IsClearOn flight aircraft volume k = HoldsNever 1 (ViolatesInTruth aircraft k (relative_for 1 (flight k) aircraft k) volume)
