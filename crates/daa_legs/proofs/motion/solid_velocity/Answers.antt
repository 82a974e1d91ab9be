use Rattle.std.proofs.Common.{rules, ◌≡◌, FitsSigned, w32, w64, to_z-of_z}
use Rattle.daa_legs.proofs.motion.solid_velocity.Goals as goal

pub returns : goal.returns
returns c =
    let u : FitsSigned w32 c.args.up = search rules in
    let w : FitsSigned w64 c.from.result = search rules in
    let up : c.from.result ≡ c.args.up = simp to_z-of_z at c.from.ensures in
    simp to_z-of_z (λ i. record { flat = c.args.way.now; up = up i })
