use Rattle.std.proofs.Common.{◌≡◌, w64, to_z-of_z, arith, lit<}
use Rattle.std.proofs.lemmas.Int.{ints}
use Rattle.daa_fixed.proofs.Bounds.{fits, times, plus, within, as_within}
use Rattle.daa_plane.specs.Rounding.{nearest}
use Rattle.daa_plane.proofs.Sizes.{euclid_within, literal}
use Rattle.daa_plane.proofs.rounding.nearest.Goals as goal

pub returns : goal.returns
unfolding nearest
returns c =
    let b = within 1000000000000 c.args.b (omega (arith, ints, c.requires.b.least)) c.requires.b.most in
    let aa = times (literal 2) c.requires.a in
    let bb = times (literal 2) b in
    let sum = plus aa b in
    let f = fits w64 c.requires.a (lit< tt) in
    let g = fits w64 b (lit< tt) in
    let ff = fits w64 aa (lit< tt) in
    let gg = fits w64 bb (lit< tt) in
    let fg = fits w64 sum (lit< tt) in
    let is : c.div_euclid.result ≡ nearest c.args.a c.args.b = simp to_z-of_z at c.div_euclid.ensures in
    let r = fits w64 (as_within is (euclid_within 2000001000000000000 _ _ (omega (arith, ints, c.requires.b.least)) sum)) (lit< tt) in
    simp to_z-of_z is
