use Rattle.std.proofs.Common.{rules, ◌∙◌, ◌≡◌, FitsSigned, w32, w64, to_z-of_z}
use Rattle.daa_heading.specs.Heading.{velocity_of}
use Rattle.daa_legs.specs.Motion.{velocity_on}
use Rattle.daa_legs.proofs.motion.velocity_at.Goals as goal

pub returns : goal.returns
unfolding velocity_on
returns c =
    let f1 : FitsSigned w32 c.ground_speed_at.result = search rules in
    let f2 : FitsSigned w32 c.track_at.result = search rules in
    let f3 : FitsSigned w64 c.vertical_speed_at.result = search rules in
    let flat : c.velocity.result ≡ velocity_of c.ground_speed_at.result c.track_at.result = simp to_z-of_z at c.velocity.ensures in
    let e = flat ∙ (λ i. velocity_of (c.ground_speed_at.ensures.value i) (c.track_at.ensures.value i)) in
    simp to_z-of_z (λ i. record { flat = e i; up = c.vertical_speed_at.ensures.value i })
