use Rattle.std.proofs.Common.{rules, ap, ◌∙◌, ℤ, ◌-ℤ◌, FitsSigned, w64, to_z-of_z, lit<}
use Rattle.std.specs.Int.{int_max}
use Rattle.daa_fixed.proofs.Bounds.{fits, plus, minus}
use Rattle.daa_fixed.proofs.moves.toward.Goals as goal

pub returns : goal.returns
returns c =
    let f1 = fits w64 c.requires.now (lit< tt) in
    let f2 = fits w64 c.requires.target (lit< tt) in
    let f3 = fits w64 c.requires.rate (lit< tt) in
    let f4 = fits w64 (minus c.requires.now c.requires.rate) (lit< tt) in
    let f5 = fits w64 (plus c.requires.now c.requires.rate) (lit< tt) in
    let f6 : FitsSigned w64 c.min.result = search rules in
    let f7 : FitsSigned w64 c.max.result = search rules in
    simp to_z-of_z ((simp to_z-of_z at c.max.ensures.value) ∙ ap (λ (z : ℤ). int_max (c.args.now -ℤ c.args.rate) z) (simp to_z-of_z at c.min.ensures.value))
