use Rattle.std.proofs.Common.{lit<, rules, FitsSigned, to_z-of_z, ap, ◌∙◌}
use mir.Syntax.{w128}
use Rattle.daa_fixed.specs.declared.Flat.{Flat}
use Rattle.daa_fixed.specs.Flat.{dot_of, square_of}
use Rattle.daa_fixed.specs.Size.{IsWithin}
use Rattle.daa_fixed.proofs.Bounds.{times, fits, as_within, le_test}
use Rattle.daa_fixed.proofs.LegSizes as size
use Rattle.daa_margin.proofs.near.can_come_near.Goals as goal

pub overflow_mul-result : goal.overflow_mul-result
overflow_mul-result c =
    let wm : IsWithin 3200000000000 c.cross-miss.result = as_within c.cross-miss.ensures (size.sxv c.requires.leg) in
    let f1 = fits w128 wm (lit< tt) in
    simp to_z-of_z (fits w128 (times wm wm) (lit< tt))

pub returns : goal.returns
returns c =
    let wm : IsWithin 3200000000000 c.cross-miss.result = as_within c.cross-miss.ensures (size.sxv c.requires.leg) in
    let f1 = fits w128 wm (lit< tt) in
    let f2 = fits w128 (times wm wm) (lit< tt) in
    let f3 : FitsSigned w128 c.square.result = search rules in
    simp to_z-of_z (le_test _ _ _ _ (ap square_of c.cross-miss.ensures) (c.square.ensures ∙ ap (λ (p : Flat). dot_of p p) c.drift.ensures.value))
