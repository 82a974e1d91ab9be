use Rattle.std.proofs.Common.{rules, pos, FitsSigned, w32, w64, to_z-of_z, ◌*ℤ◌, arith, lit<}
use Rattle.std.proofs.lemmas.Int.{ints, quot_fits}
use Rattle.daa_fixed.proofs.Bounds.{fits, times, within}
use Rattle.daa_heading.proofs.heading.share.Goals as goal

pub overflow_mul-gs : goal.overflow_mul-gs
overflow_mul-gs c =
    let g = within 10000 c.args.gs (omega (arith, ints, c.requires.gs.least)) c.requires.gs.most in
    let d = fits w32 g (lit< tt) in
    let e = fits w32 c.requires.part (lit< tt) in
    simp to_z-of_z (fits w32 (times g c.requires.part) (lit< tt))

pub returns : goal.returns
returns c =
    let g = within 10000 c.args.gs (omega (arith, ints, c.requires.gs.least)) c.requires.gs.most in
    let d = fits w32 g (lit< tt) in
    let e = fits w32 c.requires.part (lit< tt) in
    let f = fits w32 (times g c.requires.part) (lit< tt) in
    let q = quot_fits w32 (c.args.gs *ℤ c.args.part) (pos 10000) f (omega (arith, ints)) in
    let r : FitsSigned w64 c.from.result = search rules in
    simp to_z-of_z (simp to_z-of_z at c.from.ensures)
