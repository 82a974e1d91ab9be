use Rattle.std.proofs.Common.{rules, ◌≡◌, ◌∙◌, FitsSigned, w64, to_z-of_z}
use Rattle.daa_plane.specs.Sines.{degree_of, arc_of, sine_past, upper_sine}
use Rattle.daa_plane.proofs.sines.upper_sine.Goals as goal

pub returns-clause-value : goal.returns-clause-value
unfolding upper_sine
returns-clause-value c =
    let a : FitsSigned w64 c.args.angle = search rules in
    let d : FitsSigned w64 c.degree_of.result = search rules in
    let e : FitsSigned w64 c.arc_of.result = search rules in
    let r : FitsSigned w64 c.sine_past.result = search rules in
    let degree : c.degree_of.result ≡ degree_of c.args.angle = simp to_z-of_z at c.degree_of.ensures.value in
    let arc : c.arc_of.result ≡ arc_of c.args.angle = simp to_z-of_z at c.arc_of.ensures.value in
    let is : c.sine_past.result ≡ sine_past c.degree_of.result c.arc_of.result = simp to_z-of_z at c.sine_past.ensures.value in
    simp to_z-of_z (is ∙ (λ i. sine_past (degree i) (arc i)))
