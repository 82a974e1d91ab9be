use Rattle.std.proofs.Common.{rules, ◌≡◌, ◌∙◌, pos, ◌+ℤ◌, ◌-ℤ◌, ◌*ℤ◌, FitsSigned, w64, to_z-of_z, lit<}
use Rattle.daa_fixed.proofs.Bounds.{fits, as_within, plus, minus, times}
use Rattle.daa_plane.specs.Rounding.{nearest, part}
use Rattle.daa_plane.proofs.Sizes.{wider, literal}
use Rattle.daa_plane.specs.Ways.{stretched, convergence}
use Rattle.daa_plane.proofs.WayLemmas.{straight_turn, by_turn, convergence-within}
use Rattle.daa_plane.proofs.ways.convergence.Goals as goal

pub stretched-requires-clause-number : goal.stretched-requires-clause-number
stretched-requires-clause-number c =
    let gap = c.args.gap.now in
    let a = fits w64 c.requires.gap.lon (lit< tt) in
    let b = fits w64 c.requires.gap.sine (lit< tt) in
    let is : c.part-straight.result ≡ part gap.lon gap.sine = simp to_z-of_z at c.part-straight.ensures in
    let s = as_within is (straight_turn gap c.requires.gap) in
    let f = fits w64 s (lit< tt) in
    simp to_z-of_z (wider 125000000 s tt)

pub nearest-requires-clause-a : goal.nearest-requires-clause-a
nearest-requires-clause-a c =
    let a = fits w64 c.requires.squares.lat (lit< tt) in
    let b = fits w64 c.requires.squares.lon (lit< tt) in
    let d = fits w64 c.requires.squares.both (lit< tt) in
    let less = minus c.requires.squares.lon c.requires.squares.both in
    let e = fits w64 less (lit< tt) in
    let three = times (literal 3) c.requires.squares.lat in
    let g = fits w64 three (lit< tt) in
    let two = times (literal 2) less in
    let h = fits w64 two (lit< tt) in
    let k = fits w64 (plus three two) (lit< tt) in
    simp to_z-of_z (wider 1000000000000000000 (plus three two) tt)

pub stretched-requires-clause-by : goal.stretched-requires-clause-by
stretched-requires-clause-by c =
    let of = c.args.of.now in
    let a = fits w64 c.requires.squares.lat (lit< tt) in
    let b = fits w64 c.requires.squares.lon (lit< tt) in
    let d = fits w64 c.requires.squares.both (lit< tt) in
    let less = minus c.requires.squares.lon c.requires.squares.both in
    let e = fits w64 less (lit< tt) in
    let three = times (literal 3) c.requires.squares.lat in
    let g = fits w64 three (lit< tt) in
    let two = times (literal 2) less in
    let h = fits w64 two (lit< tt) in
    let k = fits w64 (plus three two) (lit< tt) in
    let is : c.nearest.result ≡ nearest (pos 3 *ℤ of.lat +ℤ pos 2 *ℤ (of.lon -ℤ of.both)) (pos 6) = simp to_z-of_z at c.nearest.ensures in
    let s = as_within is (by_turn of c.requires.squares) in
    let f = fits w64 s (lit< tt) in
    simp to_z-of_z (wider 1000000 s tt)

pub returns : goal.returns
unfolding convergence
returns c =
    let gap = c.args.gap.now in
    let of = c.args.of.now in
    let l = fits w64 c.requires.gap.lon (lit< tt) in
    let m = fits w64 c.requires.gap.sine (lit< tt) in
    let a = fits w64 c.requires.squares.lat (lit< tt) in
    let b = fits w64 c.requires.squares.lon (lit< tt) in
    let d = fits w64 c.requires.squares.both (lit< tt) in
    let less = minus c.requires.squares.lon c.requires.squares.both in
    let e = fits w64 less (lit< tt) in
    let three = times (literal 3) c.requires.squares.lat in
    let g = fits w64 three (lit< tt) in
    let two = times (literal 2) less in
    let h = fits w64 two (lit< tt) in
    let k = fits w64 (plus three two) (lit< tt) in
    let fs : FitsSigned w64 c.part-straight.result = search rules in
    let fb : FitsSigned w64 c.nearest.result = search rules in
    let fr : FitsSigned w64 c.stretched.result = search rules in
    let straight : c.part-straight.result ≡ part gap.lon gap.sine = simp to_z-of_z at c.part-straight.ensures in
    let by : c.nearest.result ≡ nearest (pos 3 *ℤ of.lat +ℤ pos 2 *ℤ (of.lon -ℤ of.both)) (pos 6) = simp to_z-of_z at c.nearest.ensures in
    let last : c.stretched.result ≡ stretched c.part-straight.result c.nearest.result = simp to_z-of_z at c.stretched.ensures in
    let all : c.stretched.result ≡ convergence gap of = last ∙ (λ i. stretched (straight i) (by i)) in
    record { value = simp to_z-of_z all; size = simp to_z-of_z (as_within all (convergence-within gap of c.requires.gap c.requires.squares)) }
