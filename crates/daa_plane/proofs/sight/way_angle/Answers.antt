use Rattle.std.proofs.Common.{◌≡◌, ap, ℤ, pos, ◌+ℤ◌, ◌*ℤ◌, w64, to_z-of_z, arith, lit<}
use Rattle.daa_fixed.proofs.Bounds.{fits, as_within, plus, times}
use Rattle.daa_plane.specs.Rounding.{nearest}
use Rattle.daa_plane.specs.Sight.{way_angle}
use Rattle.daa_plane.proofs.Sizes.{wider, literal, nearest_small}
use Rattle.daa_plane.proofs.sight.way_angle.Goals as goal

pub overflow_add-result : goal.overflow_add-result
overflow_add-result c =
    let a = fits w64 c.requires.way.turn (lit< tt) in
    let t = fits w64 c.requires.turn (lit< tt) in
    let p = times (literal 1000) c.requires.turn in
    let f = fits w64 p (lit< tt) in
    let is : c.nearest.result ≡ nearest c.args.way.now.turn (pos 2) = simp to_z-of_z at c.nearest.ensures in
    let s = as_within is (nearest_small 70000001 2 (omega arith) c.requires.way.turn tt) in
    let g = fits w64 s (lit< tt) in
    simp to_z-of_z (fits w64 (plus s p) (lit< tt))

pub returns : goal.returns
unfolding way_angle
returns c =
    let a = fits w64 c.requires.way.turn (lit< tt) in
    let t = fits w64 c.requires.turn (lit< tt) in
    let p = times (literal 1000) c.requires.turn in
    let f = fits w64 p (lit< tt) in
    let is : c.nearest.result ≡ nearest c.args.way.now.turn (pos 2) = simp to_z-of_z at c.nearest.ensures in
    let s = as_within is (nearest_small 70000001 2 (omega arith) c.requires.way.turn tt) in
    let g = fits w64 s (lit< tt) in
    let h = fits w64 (plus s p) (lit< tt) in
    record { value = simp to_z-of_z (ap (λ (z : ℤ). z +ℤ pos 1000 *ℤ c.args.turn) is); size = simp to_z-of_z (wider 900000000 (plus s p) tt) }
