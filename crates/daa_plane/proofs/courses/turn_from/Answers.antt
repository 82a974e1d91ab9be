use Rattle.std.proofs.Common.{rules, ◌≡◌, ◌∙◌, pos, ◌*ℤ◌, FitsSigned, w64, to_z-of_z, arith, lit<}
use Rattle.std.proofs.lemmas.Int.{ints}
use Rattle.daa_fixed.specs.Size.{IsFrom}
use Rattle.daa_fixed.proofs.Bounds.{fits, as_within, times}
use Rattle.daa_plane.proofs.Sizes.{wider, literal}
use Rattle.daa_plane.specs.Courses.{along, across, turn_from}
use Rattle.daa_plane.specs.Rounding.{nearest}
use Rattle.daa_plane.proofs.CourseLemmas.{along_parts, turn-within}
use Rattle.daa_plane.proofs.courses.turn_from.Goals as goal

pub nearest-requires-clause-a : goal.nearest-requires-clause-a
nearest-requires-clause-a c =
    let f = fits w64 c.across.ensures.size (lit< tt) in
    let p = times (literal 572958) c.across.ensures.size in
    let g = fits w64 p (lit< tt) in
    simp to_z-of_z (wider 1000000000000000000 p tt)

pub nearest-requires-clause-b : goal.nearest-requires-clause-b
nearest-requires-clause-b c =
    let own = c.args.own.now in
    let d = c.args.direction.now in
    let f = fits w64 c.along.ensures.size (lit< tt) in
    let is : c.along.result ≡ along own d = c.along.ensures.value in
    let some = (along_parts own d c.requires.is_along).0 in
    let low : IsFrom (pos 1) (pos 1000000000000) c.along.result =
    record { least = omega (arith, ints, some, is); most = omega (arith, ints, c.along.ensures.size.size) } in
    simp to_z-of_z low

pub returns : goal.returns
unfolding turn_from
returns c =
    let own = c.args.own.now in
    let d = c.args.direction.now in
    let f = fits w64 c.across.ensures.size (lit< tt) in
    let g = fits w64 (times (literal 572958) c.across.ensures.size) (lit< tt) in
    let h = fits w64 c.along.ensures.size (lit< tt) in
    let r : FitsSigned w64 c.nearest.result = search rules in
    let is : c.nearest.result ≡ nearest (pos 572958 *ℤ c.across.result) c.along.result = simp to_z-of_z at c.nearest.ensures in
    let right : c.across.result ≡ across own d = c.across.ensures.value in
    let ahead : c.along.result ≡ along own d = c.along.ensures.value in
    let all : c.nearest.result ≡ turn_from own d = is ∙ (λ i. nearest (pos 572958 *ℤ right i) (ahead i)) in
    record { value = simp to_z-of_z all; turn = simp to_z-of_z (as_within all (turn-within own d c.requires.is_along)) }
