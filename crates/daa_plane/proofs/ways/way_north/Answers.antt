use Rattle.std.proofs.Common.{rules, ◌≡◌, ◌∙◌, ap, pos, ◌-ℤ◌, ◌*ℤ◌, FitsSigned, w64, to_z-of_z, lit<}
use Rattle.daa_fixed.proofs.Bounds.{fits, as_within, minus, times}
use Rattle.daa_plane.specs.Rounding.{nearest, part}
use Rattle.daa_plane.proofs.Sizes.{wider, literal}
use Rattle.daa_plane.specs.Ways.{meridian, stretched, way_north}
use Rattle.daa_plane.proofs.WayLemmas.{straight_north, by_north, way_north-within}
use Rattle.daa_plane.proofs.ways.way_north.Goals as goal

pub stretched-requires-clause-number : goal.stretched-requires-clause-number
stretched-requires-clause-number c =
    let gap = c.args.gap.now in
    let of = c.args.of.now in
    let a = fits w64 c.requires.gap.lat (lit< tt) in
    let d = fits w64 c.requires.squares.sine (lit< tt) in
    let fp : FitsSigned w64 c.meridian.result = search rules in
    let long : c.meridian.result ≡ meridian of.sine = simp to_z-of_z at c.meridian.ensures.value in
    let st : c.part-straight.result ≡ part gap.lat c.meridian.result = simp to_z-of_z at c.part-straight.ensures in
    let s = as_within (st ∙ ap (part gap.lat) long) (straight_north gap of c.requires.gap c.requires.squares) in
    let f = fits w64 s (lit< tt) in
    simp to_z-of_z (wider 125000000 s tt)

pub stretched-requires-clause-by : goal.stretched-requires-clause-by
stretched-requires-clause-by c =
    let of = c.args.of.now in
    let a = fits w64 c.requires.squares.lon (lit< tt) in
    let b = fits w64 c.requires.squares.both (lit< tt) in
    let t = times (literal 2) c.requires.squares.lon in
    let d = fits w64 t (lit< tt) in
    let e = fits w64 (minus (literal 0) t) (lit< tt) in
    let g = fits w64 (minus (minus (literal 0) t) c.requires.squares.both) (lit< tt) in
    let is : c.nearest.result ≡ nearest (pos 0 -ℤ pos 2 *ℤ of.lon -ℤ of.both) (pos 6) = simp to_z-of_z at c.nearest.ensures in
    let s = as_within is (by_north of c.requires.squares) in
    let f = fits w64 s (lit< tt) in
    simp to_z-of_z (wider 1000000 s tt)

pub returns : goal.returns
unfolding way_north
returns c =
    let gap = c.args.gap.now in
    let of = c.args.of.now in
    let a = fits w64 c.requires.gap.lat (lit< tt) in
    let d = fits w64 c.requires.squares.sine (lit< tt) in
    let e = fits w64 c.requires.squares.lon (lit< tt) in
    let g = fits w64 c.requires.squares.both (lit< tt) in
    let t = times (literal 2) c.requires.squares.lon in
    let h = fits w64 t (lit< tt) in
    let k = fits w64 (minus (literal 0) t) (lit< tt) in
    let m = fits w64 (minus (minus (literal 0) t) c.requires.squares.both) (lit< tt) in
    let fp : FitsSigned w64 c.meridian.result = search rules in
    let fs : FitsSigned w64 c.part-straight.result = search rules in
    let fb : FitsSigned w64 c.nearest.result = search rules in
    let fr : FitsSigned w64 c.stretched.result = search rules in
    let long : c.meridian.result ≡ meridian of.sine = simp to_z-of_z at c.meridian.ensures.value in
    let st : c.part-straight.result ≡ part gap.lat c.meridian.result = simp to_z-of_z at c.part-straight.ensures in
    let straight = st ∙ ap (part gap.lat) long in
    let by : c.nearest.result ≡ nearest (pos 0 -ℤ pos 2 *ℤ of.lon -ℤ of.both) (pos 6) = simp to_z-of_z at c.nearest.ensures in
    let last : c.stretched.result ≡ stretched c.part-straight.result c.nearest.result = simp to_z-of_z at c.stretched.ensures in
    let all : c.stretched.result ≡ way_north gap of = last ∙ (λ i. stretched (straight i) (by i)) in
    record { value = simp to_z-of_z all; size = simp to_z-of_z (as_within all (way_north-within gap of c.requires.gap c.requires.squares)) }
