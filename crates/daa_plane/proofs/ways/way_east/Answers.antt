use Rattle.std.proofs.Common.{rules, ◌≡◌, ◌∙◌, pos, ◌-ℤ◌, FitsSigned, w64, to_z-of_z, lit<}
use Rattle.daa_fixed.proofs.Bounds.{fits, as_within, minus}
use Rattle.daa_plane.specs.Rounding.{nearest, part}
use Rattle.daa_plane.proofs.Sizes.{wider}
use Rattle.daa_plane.specs.Ways.{prime_vertical, stretched, way_east}
use Rattle.daa_plane.proofs.WayLemmas.{inner_east, straight_east, by_east, way_east-within}
use Rattle.daa_plane.proofs.ways.way_east.Goals as goal

pub part-straight-requires-clause-a : goal.part-straight-requires-clause-a
part-straight-requires-clause-a c =
    let gap = c.args.gap.now in
    let a = fits w64 c.requires.gap.lon (lit< tt) in
    let b = fits w64 c.requires.gap.cosine (lit< tt) in
    let is : c.part.result ≡ part gap.lon gap.cosine = simp to_z-of_z at c.part.ensures in
    let s = as_within is (inner_east gap c.requires.gap) in
    let f = fits w64 s (lit< tt) in
    simp to_z-of_z (wider 1000000000 s tt)

pub stretched-requires-clause-number : goal.stretched-requires-clause-number
stretched-requires-clause-number c =
    let gap = c.args.gap.now in
    let of = c.args.of.now in
    let a = fits w64 c.requires.gap.lon (lit< tt) in
    let b = fits w64 c.requires.gap.cosine (lit< tt) in
    let d = fits w64 c.requires.squares.sine (lit< tt) in
    let fi : FitsSigned w64 c.part.result = search rules in
    let fp : FitsSigned w64 c.prime_vertical.result = search rules in
    let is : c.part.result ≡ part gap.lon gap.cosine = simp to_z-of_z at c.part.ensures in
    let long : c.prime_vertical.result ≡ prime_vertical of.sine = simp to_z-of_z at c.prime_vertical.ensures.value in
    let st : c.part-straight.result ≡ part c.part.result c.prime_vertical.result = simp to_z-of_z at c.part-straight.ensures in
    let all = st ∙ (λ i. part (is i) (long i)) in
    let s = as_within all (straight_east gap of c.requires.gap c.requires.squares) in
    let f = fits w64 s (lit< tt) in
    simp to_z-of_z (wider 125000000 s tt)

pub stretched-requires-clause-by : goal.stretched-requires-clause-by
stretched-requires-clause-by c =
    let of = c.args.of.now in
    let a = fits w64 c.requires.squares.lat (lit< tt) in
    let b = fits w64 c.requires.squares.both (lit< tt) in
    let d = fits w64 (minus c.requires.squares.lat c.requires.squares.both) (lit< tt) in
    let is : c.nearest.result ≡ nearest (of.lat -ℤ of.both) (pos 6) = simp to_z-of_z at c.nearest.ensures in
    let s = as_within is (by_east of c.requires.squares) in
    let f = fits w64 s (lit< tt) in
    simp to_z-of_z (wider 1000000 s tt)

pub returns : goal.returns
unfolding way_east
returns c =
    let gap = c.args.gap.now in
    let of = c.args.of.now in
    let a = fits w64 c.requires.gap.lon (lit< tt) in
    let b = fits w64 c.requires.gap.cosine (lit< tt) in
    let d = fits w64 c.requires.squares.sine (lit< tt) in
    let e = fits w64 c.requires.squares.lat (lit< tt) in
    let g = fits w64 c.requires.squares.both (lit< tt) in
    let h = fits w64 (minus c.requires.squares.lat c.requires.squares.both) (lit< tt) in
    let fi : FitsSigned w64 c.part.result = search rules in
    let fp : FitsSigned w64 c.prime_vertical.result = search rules in
    let fs : FitsSigned w64 c.part-straight.result = search rules in
    let fb : FitsSigned w64 c.nearest.result = search rules in
    let fr : FitsSigned w64 c.stretched.result = search rules in
    let is : c.part.result ≡ part gap.lon gap.cosine = simp to_z-of_z at c.part.ensures in
    let long : c.prime_vertical.result ≡ prime_vertical of.sine = simp to_z-of_z at c.prime_vertical.ensures.value in
    let st : c.part-straight.result ≡ part c.part.result c.prime_vertical.result = simp to_z-of_z at c.part-straight.ensures in
    let straight = st ∙ (λ i. part (is i) (long i)) in
    let by : c.nearest.result ≡ nearest (of.lat -ℤ of.both) (pos 6) = simp to_z-of_z at c.nearest.ensures in
    let last : c.stretched.result ≡ stretched c.part-straight.result c.nearest.result = simp to_z-of_z at c.stretched.ensures in
    let all : c.stretched.result ≡ way_east gap of = last ∙ (λ i. stretched (straight i) (by i)) in
    record { value = simp to_z-of_z all; size = simp to_z-of_z (as_within all (way_east-within gap of c.requires.gap c.requires.squares)) }
