use Rattle.std.proofs.Common.{◌≡◌, pos, ◌+ℤ◌, w64, to_z-of_z, arith, lit<}
use Rattle.std.specs.Int.{int_div_euclid}
use Rattle.daa_fixed.specs.Size.{IsWithin}
use Rattle.daa_fixed.proofs.Bounds.{fits, plus, as_within}
use Rattle.daa_plane.specs.Gaps.{middle_of}
use Rattle.daa_plane.proofs.Sizes.{divided}
use Rattle.daa_plane.proofs.gaps.middle_of.Goals as goal

pub returns : goal.returns
unfolding middle_of
returns c =
    let a = fits w64 c.requires.lat (lit< tt) in
    let b = fits w64 c.requires.other (lit< tt) in
    let sum = plus c.requires.lat c.requires.other in
    let d = fits w64 sum (lit< tt) in
    let is : c.div_euclid.result ≡ int_div_euclid (c.args.lat +ℤ c.args.other) (pos 2) = simp to_z-of_z at c.div_euclid.ensures in
    let small : IsWithin 800000000 c.div_euclid.result = as_within is (divided 800000000 2 (c.args.lat +ℤ c.args.other) (omega arith) sum) in
    let f = fits w64 small (lit< tt) in
    record { value = simp to_z-of_z is; size = simp to_z-of_z small }
