use Rattle.std.proofs.Common.{rules, ◌∙◌, pos, ◌*ℤ◌, FitsSigned, w32, to_z-of_z}
use Rattle.std.specs.Prelude.{int_div}
use Rattle.daa_fixed.proofs.Bounds.{as_within}
use Rattle.daa_heading.specs.Heading.{velocity_of}
use Rattle.daa_heading.proofs.Sines.{sine_of-within, cosine_of-within}
use Rattle.daa_legs.proofs.motion.velocity_at_speed.Goals as goal

pub velocity_from_unit-requires-clause-sine : goal.velocity_from_unit-requires-clause-sine
velocity_from_unit-requires-clause-sine c =
    let s : FitsSigned w32 c.args.track.0 = search rules in
    simp to_z-of_z (as_within c.requires.sine (sine_of-within _))

pub velocity_from_unit-requires-clause-cosine : goal.velocity_from_unit-requires-clause-cosine
velocity_from_unit-requires-clause-cosine c =
    let s : FitsSigned w32 c.args.track.1 = search rules in
    simp to_z-of_z (as_within c.requires.cosine (cosine_of-within _))

pub returns : goal.returns
unfolding velocity_of
returns c =
    let f1 : FitsSigned w32 c.args.gs = search rules in
    let f2 : FitsSigned w32 c.args.track.0 = search rules in
    let f3 : FitsSigned w32 c.args.track.1 = search rules in
    let f4 : FitsSigned w32 c.args.own.now.vs = search rules in
    let along = simp to_z-of_z at c.velocity_from_unit.ensures in
    let is = simp to_z-of_z at c.solid_velocity.ensures in
    is ∙ (λ i. record {
      flat = (along ∙ (λ j. record {
        east = int_div (c.args.gs *ℤ c.requires.sine j) (pos 10000);
        north = int_div (c.args.gs *ℤ c.requires.cosine j) (pos 10000);
      })) i;
      up = c.args.own.now.vs;
    })
