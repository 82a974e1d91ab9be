use Rattle.std.proofs.Common.{rules, ◌≡◌, ◌∙◌, FitsSigned, w64, to_z, of_z, to_z-of_z, lit<}
use Rattle.daa_fixed.proofs.Bounds.{fits, as_within}
use Rattle.daa_plane.specs.Rounding.{part}
use Rattle.daa_plane.specs.Inside.Sizes.{AreSquares}
use Rattle.daa_plane.specs.Ways.{half_square, squares_of}
use Rattle.daa_plane.specs.declared.ways.Squares.{Squares}
use Rattle.std.proofs.Common.{sym, subst}
use Rattle.daa_plane.proofs.Sizes.{wider, part_small}
use Rattle.daa_plane.proofs.WayLemmas.{squares-within}
use Rattle.daa_plane.proofs.ways.squares_of.Goals as goal

pub part-requires-clause-a : goal.part-requires-clause-a
part-requires-clause-a c =
    let gap = c.args.gap.now in
    let a = fits w64 c.requires.sine (lit< tt) in
    let is : c.part-sine.result ≡ part gap.sine gap.sine = simp to_z-of_z at c.part-sine.ensures in
    let s = as_within is (part_small 10500000 c.requires.sine c.requires.sine tt) in
    let f = fits w64 s (lit< tt) in
    simp to_z-of_z (wider 1000000000 s tt)

pub returns : goal.returns
unfolding squares_of
returns c =
    let gap = c.args.gap.now in
    let a = fits w64 c.requires.sine (lit< tt) in
    let b = fits w64 c.requires.lon (lit< tt) in
    let d = fits w64 c.requires.lat (lit< tt) in
    let fs : FitsSigned w64 c.part-sine.result = search rules in
    let fo : FitsSigned w64 c.half_square-lon.result = search rules in
    let fa : FitsSigned w64 c.half_square.result = search rules in
    let fb : FitsSigned w64 c.part.result = search rules in
    let sine : c.part-sine.result ≡ part gap.sine gap.sine = simp to_z-of_z at c.part-sine.ensures in
    let lon : c.half_square-lon.result ≡ half_square gap.lon = simp to_z-of_z at c.half_square-lon.ensures.value in
    let lat : c.half_square.result ≡ half_square gap.lat = simp to_z-of_z at c.half_square.ensures.value in
    let is : c.part.result ≡ part c.part-sine.result c.half_square-lon.result = simp to_z-of_z at c.part.ensures in
    let both = is ∙ (λ i. part (sine i) (lon i)) in
    let all : ◌≡◌ {A = Squares} record {
      sine = to_z w64 (of_z w64 c.part-sine.result);
      lat = to_z w64 (of_z w64 c.half_square.result);
      lon = to_z w64 (of_z w64 c.half_square-lon.result);
      both = to_z w64 (of_z w64 c.part.result);
    } (squares_of gap) =
    simp to_z-of_z (λ i. record { sine = sine i; lat = lat i; lon = lon i; both = both i }) in
    record { value = all; size = subst (λ (of : Squares). AreSquares of) (sym all) (squares-within gap c.requires) }
