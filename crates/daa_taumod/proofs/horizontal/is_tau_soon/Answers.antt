use Rattle.std.proofs.Common.{rules, refl, FitsSigned, to_z-of_z}
use mir.Syntax.{w128}
use Rattle.daa_fixed.proofs.Bounds.{le_test}
use Rattle.daa_taumod.proofs.horizontal.is_tau_soon.Goals as goal

pub returns : goal.returns
returns c =
    let f1 : FitsSigned w128 c.tau_sum.result = search rules in
    simp to_z-of_z (le_test _ _ _ _ c.tau_sum.ensures refl)
