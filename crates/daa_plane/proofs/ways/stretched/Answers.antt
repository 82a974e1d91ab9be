use Rattle.std.proofs.Common.{◌≡◌, ap, ℤ, ◌+ℤ◌, w64, to_z-of_z, lit<}
use Rattle.daa_fixed.proofs.Bounds.{fits, as_within, plus}
use Rattle.daa_plane.specs.Rounding.{part}
use Rattle.daa_plane.specs.Ways.{stretched}
use Rattle.daa_plane.proofs.Sizes.{part_small}
use Rattle.daa_plane.proofs.ways.stretched.Goals as goal

pub overflow_add-result : goal.overflow_add-result
overflow_add-result c =
    let a = fits w64 c.requires.number (lit< tt) in
    let b = fits w64 c.requires.by (lit< tt) in
    let is : c.part.result ≡ part c.args.number c.args.by = simp to_z-of_z at c.part.ensures in
    let s = as_within is (part_small 13000000 c.requires.number c.requires.by tt) in
    let f = fits w64 s (lit< tt) in
    simp to_z-of_z (fits w64 (plus c.requires.number s) (lit< tt))

pub returns : goal.returns
unfolding stretched
returns c =
    let a = fits w64 c.requires.number (lit< tt) in
    let b = fits w64 c.requires.by (lit< tt) in
    let is : c.part.result ≡ part c.args.number c.args.by = simp to_z-of_z at c.part.ensures in
    let s = as_within is (part_small 13000000 c.requires.number c.requires.by tt) in
    let f = fits w64 s (lit< tt) in
    let g = fits w64 (plus c.requires.number s) (lit< tt) in
    simp to_z-of_z (ap (λ (z : ℤ). c.args.number +ℤ z) is)
