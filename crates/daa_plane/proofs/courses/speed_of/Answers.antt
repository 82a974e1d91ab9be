use Rattle.std.proofs.Common.{◌≡◌, subst, ℤ, pos, ◌+ℤ◌, ◌*ℤ◌, ◌≤ℤ◌, w64, to_z-of_z, arith, lit<}
use Rattle.std.specs.Int.{IsIsqrt}
use Rattle.std.specs.Prelude.{int_div}
use Rattle.std.proofs.lemmas.Int.{ints}
use Rattle.daa_fixed.proofs.Bounds.{fits, within, plus, times}
use Rattle.daa_plane.specs.Courses.{speed_square, IsNearestRoot}
use Rattle.daa_plane.proofs.CourseLemmas.{root_of}
use Rattle.daa_plane.proofs.PlaceLemmas.{own_parts}
use Rattle.daa_plane.proofs.Sizes.{literal}
use Rattle.daa_plane.proofs.courses.speed_of.Goals as goal

pub speed_square-requires : goal.speed_square-requires
speed_square-requires c = (own_parts c.args.own.now c.requires).0

pub isqrt-requires : goal.isqrt-requires
isqrt-requires c =
    let range = c.speed_square.ensures.range in
    let s = within 200000000 c.speed_square.result (omega (arith, ints, range.least)) range.most in
    let f = fits w64 s (lit< tt) in
    let g = fits w64 (times (literal 4) s) (lit< tt) in
    let some : pos 0 ≤ℤ (pos 4 *ℤ c.speed_square.result) = omega (arith, ints, range.least) in
    simp to_z-of_z some

pub overflow_add-result : goal.overflow_add-result
overflow_add-result c =
    let range = c.speed_square.ensures.range in
    let is : c.speed_square.result ≡ speed_square c.args.own.now = c.speed_square.ensures.value in
    let s = within 200000000 c.speed_square.result (omega (arith, ints, range.least)) range.most in
    let f = fits w64 s (lit< tt) in
    let g = fits w64 (times (literal 4) s) (lit< tt) in
    let root : IsIsqrt (pos 4 *ℤ c.speed_square.result) c.isqrt.result = simp to_z-of_z at c.isqrt.ensures in
    let less : c.speed_square.result ≤ℤ pos 100000000 = omega (arith, ints, is, (own_parts c.args.own.now c.requires).1) in
    let all = root_of c.speed_square.result c.isqrt.result range.least less root in
    let r = within 20000 c.isqrt.result (omega (arith, ints, all.small.least)) all.small.most in
    let h = fits w64 r (lit< tt) in
    simp to_z-of_z (fits w64 (plus r (literal 1)) (lit< tt))

pub returns : goal.returns
returns c =
    let range = c.speed_square.ensures.range in
    let is : c.speed_square.result ≡ speed_square c.args.own.now = c.speed_square.ensures.value in
    let s = within 200000000 c.speed_square.result (omega (arith, ints, range.least)) range.most in
    let f = fits w64 s (lit< tt) in
    let g = fits w64 (times (literal 4) s) (lit< tt) in
    let root : IsIsqrt (pos 4 *ℤ c.speed_square.result) c.isqrt.result = simp to_z-of_z at c.isqrt.ensures in
    let less : c.speed_square.result ≤ℤ pos 100000000 = omega (arith, ints, is, (own_parts c.args.own.now c.requires).1) in
    let all = root_of c.speed_square.result c.isqrt.result range.least less root in
    let r = within 20000 c.isqrt.result (omega (arith, ints, all.small.least)) all.small.most in
    let h = fits w64 r (lit< tt) in
    let k = fits w64 (plus r (literal 1)) (lit< tt) in
    let q = within 10000 (int_div (c.isqrt.result +ℤ pos 1) (pos 2)) (omega (arith, ints, all.range.least)) all.range.most in
    let l = fits w64 q (lit< tt) in
    let value = subst (λ (z : ℤ). IsNearestRoot z (int_div (c.isqrt.result +ℤ pos 1) (pos 2))) is all.value in
    record { value = simp to_z-of_z value; range = simp to_z-of_z all.range }
