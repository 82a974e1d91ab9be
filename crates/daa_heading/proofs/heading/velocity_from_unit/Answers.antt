use Rattle.std.proofs.Common.{rules, FitsSigned, w32, w64, to_z-of_z}
use Rattle.daa_heading.proofs.heading.velocity_from_unit.Goals as goal

pub returns : goal.returns
returns c =
    let g : FitsSigned w32 c.args.gs = search rules in
    let s : FitsSigned w32 c.args.sine = search rules in
    let t : FitsSigned w32 c.args.cosine = search rules in
    let x : FitsSigned w64 c.share.result = search rules in
    let y : FitsSigned w64 c.share-2.result = search rules in
    let east = (simp to_z-of_z at c.share.ensures) in
    let north = (simp to_z-of_z at c.share-2.ensures) in
    simp to_z-of_z (λ i. record { east = east i; north = north i })
