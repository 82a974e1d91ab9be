use Rattle.std.proofs.Common.{rules, ◌∙◌, FitsSigned, w32, to_z-of_z, ℤ, pos, ◌*ℤ◌}
use Rattle.std.specs.Prelude.{int_div}
use Rattle.daa_fixed.proofs.Bounds.{as_within}
use Rattle.daa_heading.specs.Heading.{velocity_of}
use Rattle.daa_heading.proofs.Sines.{sine_of-within, cosine_of-within}
use Rattle.daa_heading.proofs.heading.velocity.Goals as goal

pub velocity_from_unit-requires-clause-sine : goal.velocity_from_unit-requires-clause-sine
velocity_from_unit-requires-clause-sine c =
    let d : FitsSigned w32 c.args.deg = search rules in
    let s : FitsSigned w32 c.unit-sine.result.0 = search rules in
    simp to_z-of_z (as_within c.unit-sine.ensures.sine (sine_of-within _))

pub velocity_from_unit-requires-clause-cosine : goal.velocity_from_unit-requires-clause-cosine
velocity_from_unit-requires-clause-cosine c =
    let d : FitsSigned w32 c.args.deg = search rules in
    let s : FitsSigned w32 c.unit-sine.result.1 = search rules in
    simp to_z-of_z (as_within c.unit-sine.ensures.cosine (cosine_of-within _))

pub returns : goal.returns
unfolding velocity_of
returns c =
    let d : FitsSigned w32 c.args.deg = search rules in
    let g : FitsSigned w32 c.args.gs = search rules in
    let s : FitsSigned w32 c.unit-sine.result.0 = search rules in
    let t : FitsSigned w32 c.unit-sine.result.1 = search rules in
    let part = λ (z : ℤ). int_div (c.args.gs *ℤ z) (pos 10000) in
    let along = (simp to_z-of_z at c.velocity_from_unit.ensures) in
    let sine = (simp to_z-of_z at c.unit-sine.ensures.sine) in
    let cosine = (simp to_z-of_z at c.unit-sine.ensures.cosine) in
    along ∙ (λ i. record { east = part (sine i); north = part (cosine i) })
