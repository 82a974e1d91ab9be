use Rattle.std.proofs.Common.{◌≡◌, ◌∙◌, ap, sym, subst, arith, ◌≤◌}
use Rattle.daa_fixed.specs.declared.Solid.{Solid}
use Rattle.daa_fixed.specs.declared.Leg.{Leg}
use Rattle.daa_fixed.specs.Leg.{minus, IsLegInRange}
use Rattle.daa_legs.specs.Relative.{relative_for}
use Rattle.daa_legs.proofs.Relatives.{relative_for-in_range}
use Rattle.daa_legs.proofs.encounter.relative_from.Goals as goal

known : (c : goal.After-difference-2) → let leg : Leg = record { place = c.difference.result; velocity = c.difference-2.result; secs = 1 } in leg
    ≡ relative_for 1 c.args.leg.now c.args.aircraft.now c.args.k
unfolding relative_for
known c = λ i. record {
  place = (c.difference.ensures ∙ ap (λ (p : Solid). minus c.args.leg.now.place p) c.place_from.ensures.value) i;
  velocity = (c.difference-2.ensures ∙ ap (λ (p : Solid). minus c.args.leg.now.velocity p) c.velocity_of.ensures.value) i;
  secs = 1;
}

pub returns-clause-value : goal.returns-clause-value
returns-clause-value c = known c

pub returns-clause-in_range : goal.returns-clause-in_range
returns-clause-in_range c =
    let k : c.args.k ≤ 180 = omega (arith, c.requires.k) in
    subst (λ (leg : Leg). IsLegInRange leg) (sym (known c))
    (relative_for-in_range 1 c.args.leg.now c.args.aircraft.now c.args.k c.requires.leg c.requires.aircraft k (omega arith) (omega arith))
