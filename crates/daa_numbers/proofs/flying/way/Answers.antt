use Rattle.std.proofs.Common.{w64, to_z-of_z, arith, lit<}
use Rattle.std.proofs.lemmas.Int.{ints}
use Rattle.daa_fixed.proofs.Bounds.{fits, times, within}
use Rattle.daa_numbers.proofs.flying.way.Goals as goal

pub returns : goal.returns
returns c =
    let m = within 60999 c.args.ms (omega (arith, ints, c.requires.ms.least)) c.requires.ms.most in
    let s = fits w64 c.requires.speed (lit< tt) in
    let t = fits w64 m (lit< tt) in
    let p = times c.requires.speed m in
    let f = fits w64 p (lit< tt) in
    record { value = simp to_z-of_z; size = simp to_z-of_z p }
