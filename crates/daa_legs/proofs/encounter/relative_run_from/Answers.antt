use Rattle.std.proofs.Common.{◌≡◌, ◌↔◌, ◌∙◌, ap, sym, subst, ◌+◌, arith}
use Rattle.daa_fixed.specs.declared.Solid.{Solid}
use Rattle.daa_fixed.specs.declared.Leg.{Leg}
use Rattle.daa_fixed.specs.Leg.{minus, IsLegInRange}
use Rattle.daa_fixed.specs.Time.{HoldsSometime}
use Rattle.daa_legs.specs.Relative.{relative_for}
use Rattle.daa_legs.specs.Violating.{ViolatesBy}
use Rattle.daa_legs.specs.Runs.{first_leg_of, MeetsBetween}
use Rattle.daa_legs.proofs.Relatives.{relative_for-in_range}
use Rattle.daa_legs.proofs.Seconds.{run_seconds}
use Rattle.daa_legs.proofs.encounter.relative_run_from.Goals as goal

known : (c : goal.After-difference-2) → let leg : Leg = record { place = c.difference.result; velocity = c.difference-2.result; secs = c.args.run.now.secs }
    in leg ≡ relative_for c.args.run.now.secs (first_leg_of c.args.run.now) c.args.aircraft.now c.args.k
unfolding relative_for
known c = λ i. record {
  place = (c.difference.ensures ∙ ap (λ (p : Solid). minus c.args.run.now.place p) c.place_from.ensures.value) i;
  velocity = (c.difference-2.ensures ∙ ap (λ (p : Solid). minus c.args.run.now.velocity p) c.velocity_of.ensures.value) i;
  secs = c.args.run.now.secs;
}

pub returns-clause-value : goal.returns-clause-value
returns-clause-value c = known c

pub returns-clause-in_range : goal.returns-clause-in_range
returns-clause-in_range c =
    subst (λ (leg : Leg). IsLegInRange leg) (sym (known c))
    (relative_for-in_range c.args.run.now.secs (first_leg_of c.args.run.now) c.args.aircraft.now c.args.k c.requires.run.leg c.requires.aircraft
    (omega (arith, c.requires.k)) c.requires.run.some c.requires.short)

pub returns-clause-seconds : goal.returns-clause-seconds
returns-clause-seconds c settings own candidate volume r =
    subst (λ (leg : Leg). HoldsSometime c.args.run.now.secs (ViolatesBy c.args.aircraft.now c.args.k leg volume) ↔ MeetsBetween settings own candidate c.args.aircraft.now volume c.args.k
    (c.args.k + c.args.run.now.secs)) (sym (known c))
    (run_seconds settings own candidate c.args.aircraft.now volume c.args.k c.args.run.now r c.requires.run.some)
