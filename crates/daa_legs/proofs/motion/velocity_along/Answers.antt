use Rattle.std.proofs.Common.{rules, ◌≡◌, ◌∙◌, FitsSigned, w32, to_z-of_z}
use Rattle.daa_heading.specs.Heading.{velocity_of}
use Rattle.daa_legs.proofs.motion.velocity_along.Goals as goal

pub returns : goal.returns
returns c =
    let g : FitsSigned w32 c.args.gs = search rules in
    let t : FitsSigned w32 c.args.track = search rules in
    let u : FitsSigned w32 c.args.up = search rules in
    let flat : c.velocity.result ≡ velocity_of c.args.gs c.args.track = simp to_z-of_z at c.velocity.ensures in
    let is : c.solid_velocity.result ≡ record { flat = c.velocity.result; up = c.args.up } = simp to_z-of_z at c.solid_velocity.ensures in
    is ∙ (λ i. record { flat = flat i; up = c.args.up })
