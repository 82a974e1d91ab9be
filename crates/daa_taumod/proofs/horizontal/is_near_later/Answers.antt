use Rattle.std.proofs.Common.{rules, ap, ◌∙◌, FitsSigned, to_z-of_z}
use mir.Syntax.{w128}
use Rattle.daa_fixed.specs.declared.Flat.{Flat}
use Rattle.daa_fixed.specs.Flat.{dot_of}
use Rattle.daa_fixed.proofs.Bounds.{le_test}
use Rattle.daa_taumod.proofs.horizontal.is_near_later.Goals as goal

pub returns : goal.returns
returns c =
    let f1 : FitsSigned w128 c.square.result = search rules in
    let f2 : FitsSigned w128 c.scaled_square.result = search rules in
    simp to_z-of_z (le_test _ _ _ _ (c.square.ensures ∙ ap (λ (p : Flat). dot_of p p) c.place_later.ensures.value) c.scaled_square.ensures)
