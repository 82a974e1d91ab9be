use Rattle.std.proofs.Common.{◌≡◌, ◌∙◌, ap, ℤ, pos, ◌+ℤ◌, w64, to_z-of_z, lit<}
use Rattle.daa_fixed.proofs.Bounds.{fits, as_within, plus}
use Rattle.daa_plane.specs.Rounding.{part}
use Rattle.daa_plane.specs.Ways.{prime_vertical}
use Rattle.daa_plane.proofs.Sizes.{wider, literal, part_small}
use Rattle.daa_plane.proofs.WayLemmas.{prime_vertical-within}
use Rattle.daa_plane.proofs.ways.prime_vertical.Goals as goal

pub overflow_add-part : goal.overflow_add-part
overflow_add-part c =
    let a = fits w64 c.requires (lit< tt) in
    let is : c.part.result ≡ part (pos 102) c.args.s = simp to_z-of_z at c.part.ensures in
    let s = as_within is (part_small 108 (literal 102) c.requires tt) in
    let f = fits w64 s (lit< tt) in
    simp to_z-of_z (fits w64 (plus (literal 20119) s) (lit< tt))

pub part-requires-2-clause-a : goal.part-requires-2-clause-a
part-requires-2-clause-a c =
    let a = fits w64 c.requires (lit< tt) in
    let is : c.part.result ≡ part (pos 102) c.args.s = simp to_z-of_z at c.part.ensures in
    let s = as_within is (part_small 108 (literal 102) c.requires tt) in
    let f = fits w64 s (lit< tt) in
    let g = fits w64 (plus (literal 20119) s) (lit< tt) in
    simp to_z-of_z (wider 1000000000 (plus (literal 20119) s) tt)

pub overflow_add-result : goal.overflow_add-result
overflow_add-result c =
    let a = fits w64 c.requires (lit< tt) in
    let is : c.part.result ≡ part (pos 102) c.args.s = simp to_z-of_z at c.part.ensures in
    let s = as_within is (part_small 108 (literal 102) c.requires tt) in
    let f = fits w64 s (lit< tt) in
    let g = fits w64 (plus (literal 20119) s) (lit< tt) in
    let two : c.part-2.result ≡ part (pos 20119 +ℤ c.part.result) c.args.s = simp to_z-of_z at c.part-2.ensures in
    let t = as_within two (part_small 21239 (plus (literal 20119) s) c.requires tt) in
    let h = fits w64 t (lit< tt) in
    simp to_z-of_z (fits w64 (plus (literal 6010772) t) (lit< tt))

pub returns : goal.returns
unfolding prime_vertical
returns c =
    let a = fits w64 c.requires (lit< tt) in
    let is : c.part.result ≡ part (pos 102) c.args.s = simp to_z-of_z at c.part.ensures in
    let s = as_within is (part_small 108 (literal 102) c.requires tt) in
    let f = fits w64 s (lit< tt) in
    let g = fits w64 (plus (literal 20119) s) (lit< tt) in
    let two : c.part-2.result ≡ part (pos 20119 +ℤ c.part.result) c.args.s = simp to_z-of_z at c.part-2.ensures in
    let t = as_within two (part_small 21239 (plus (literal 20119) s) c.requires tt) in
    let h = fits w64 t (lit< tt) in
    let k = fits w64 (plus (literal 6010772) t) (lit< tt) in
    let both = two ∙ ap (λ (z : ℤ). part (pos 20119 +ℤ z) c.args.s) is in
    let all : pos 6010772 +ℤ c.part-2.result ≡ prime_vertical c.args.s = ap (λ (z : ℤ). pos 6010772 +ℤ z) both in
    record { value = simp to_z-of_z all; size = simp to_z-of_z (as_within all (prime_vertical-within c.args.s c.requires)) }
