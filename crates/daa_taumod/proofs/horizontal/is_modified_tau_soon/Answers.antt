use Rattle.std.proofs.Common.{rules, FitsSigned, to_z-of_z}
use mir.Syntax.{w128}
use Rattle.daa_fixed.proofs.Bounds.{le_test}
use Rattle.daa_taumod.proofs.horizontal.is_modified_tau_soon.Goals as goal

pub returns : goal.returns
returns c =
    let f1 : FitsSigned w128 c.tau_sum.result = search rules in
    let f2 : FitsSigned w128 c.scaled_square.result = search rules in
    simp to_z-of_z (le_test _ _ _ _ c.tau_sum.ensures c.scaled_square.ensures)
