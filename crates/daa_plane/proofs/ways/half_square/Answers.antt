use Rattle.std.proofs.Common.{rules, ◌≡◌, ◌∙◌, pos, FitsSigned, w64, to_z-of_z, lit<}
use Rattle.daa_fixed.proofs.Bounds.{fits, as_within}
use Rattle.daa_plane.specs.Rounding.{part}
use Rattle.daa_plane.specs.Ways.{half_square}
use Rattle.daa_plane.proofs.Sizes.{wider}
use Rattle.daa_plane.proofs.WayLemmas.{half-within, half_square-within}
use Rattle.daa_plane.proofs.ways.half_square.Goals as goal

pub part-requires-clause-a : goal.part-requires-clause-a
part-requires-clause-a c =
    let a = fits w64 c.requires (lit< tt) in
    let is : c.part-half.result ≡ part c.args.angle (pos 87266) = simp to_z-of_z at c.part-half.ensures in
    let s = as_within is (half-within c.args.angle c.requires) in
    let h = fits w64 s (lit< tt) in
    simp to_z-of_z (wider 1000000000 s tt)

pub part-requires-clause-b : goal.part-requires-clause-b
part-requires-clause-b c =
    let a = fits w64 c.requires (lit< tt) in
    let is : c.part-half.result ≡ part c.args.angle (pos 87266) = simp to_z-of_z at c.part-half.ensures in
    let s = as_within is (half-within c.args.angle c.requires) in
    let h = fits w64 s (lit< tt) in
    simp to_z-of_z (wider 100000000 s tt)

pub returns : goal.returns
unfolding half_square
returns c =
    let a = fits w64 c.requires (lit< tt) in
    let h : FitsSigned w64 c.part-half.result = search rules in
    let r : FitsSigned w64 c.part.result = search rules in
    let half : c.part-half.result ≡ part c.args.angle (pos 87266) = simp to_z-of_z at c.part-half.ensures in
    let is : c.part.result ≡ part c.part-half.result c.part-half.result = simp to_z-of_z at c.part.ensures in
    let all : c.part.result ≡ half_square c.args.angle = is ∙ (λ i. part (half i) (half i)) in
    record { value = simp to_z-of_z all; size = simp to_z-of_z (as_within all (half_square-within c.args.angle c.requires)) }
