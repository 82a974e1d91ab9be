use Rattle.std.proofs.Common.{lit<, rules, FitsSigned, w64, to_z-of_z, ap, ◌∙◌}
use mir.Syntax.{w128}
use Rattle.daa_fixed.specs.declared.Flat.{Flat}
use Rattle.daa_fixed.specs.Flat.{dot_of, square_of}
use Rattle.daa_fixed.proofs.Bounds.{times, fits, le_test}
use Rattle.daa_margin.proofs.near.may_be_near.Goals as goal

pub returns : goal.returns
returns c =
    let wr = c.radius_then-radius.ensures.size in
    let f1 = fits w64 wr (lit< tt) in
    let f2 = fits w128 wr (lit< tt) in
    let f3 = fits w128 (times wr wr) (lit< tt) in
    let f4 : FitsSigned w128 c.square.result = search rules in
    simp to_z-of_z (le_test _ _ _ _ (c.square.ensures ∙ ap (λ (p : Flat). dot_of p p) c.place_then.ensures.value) (ap square_of c.radius_then-radius.ensures.value))
