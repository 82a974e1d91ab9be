use Rattle.std.proofs.Common.{◌≡◌, pos, ◌*ℤ◌, FitsSigned, w64, to_z-of_z, arith, lit<}
use Rattle.daa_fixed.proofs.Bounds.{fits, times, as_within}
use Rattle.daa_plane.specs.Rounding.{nearest, part}
use Rattle.daa_plane.proofs.Sizes.{nearest_small}
use Rattle.daa_plane.proofs.rounding.part.Goals as goal

pub returns : goal.returns
unfolding part
returns c =
    let p = times c.requires.a c.requires.b in
    let f = fits w64 c.requires.a (lit< tt) in
    let g = fits w64 c.requires.b (lit< tt) in
    let h = fits w64 p (lit< tt) in
    let is : c.nearest.result ≡ nearest (c.args.a *ℤ c.args.b) (pos 10000000) = simp to_z-of_z at c.nearest.ensures in
    let r : FitsSigned w64 c.nearest.result = fits w64 (as_within is (nearest_small 10000000001 10000000 (omega arith) p tt)) (lit< tt) in
    simp to_z-of_z is
