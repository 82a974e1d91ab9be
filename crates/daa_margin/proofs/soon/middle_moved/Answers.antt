use Rattle.std.proofs.Common.{◌^◌, ◌*◌, ◌+◌, pos, ◌+ℤ◌, ◌*ℤ◌, lit<, rules, arith, w64, to_z-of_z}
use Rattle.daa_fixed.specs.Size.{IsWithin}
use Rattle.daa_fixed.proofs.Bounds.{times, plus, fits, as_within}
use Rattle.daa_fixed.proofs.LegSizes.{natural}
use Rattle.daa_margin.proofs.MomentSizes as size
use Rattle.daa_margin.proofs.MomentSizes.{IsMomentInRange, small_kept}
use Rattle.daa_margin.proofs.soon.middle_moved.Goals as goal

two : IsWithin 2 (pos 2)
two = record { size = omega arith }

pub overflow_mul-result-3 : goal.overflow_mul-result-3
overflow_mul-result-3 c =
    let t : IsMomentInRange c.args.moment.now = search rules in
    let e = small_kept c.args.secs (omega (arith, c.requires.secs)) in
    let wait = times (natural 120 c.args.secs c.requires.secs) (size.d t) in
    let f1 = fits w64 (size.d t) (lit< tt) in
    let f2 = fits w64 wait (lit< tt) in
    let f3 = fits w64 c.requires.speed (lit< tt) in
    simp (e, to_z-of_z) (fits w64 (times wait c.requires.speed) (lit< tt))

pub overflow_add-result : goal.overflow_add-result
overflow_add-result c =
    let t : IsMomentInRange c.args.moment.now = search rules in
    let e = small_kept c.args.secs (omega (arith, c.requires.secs)) in
    let wait = times (natural 120 c.args.secs c.requires.secs) (size.d t) in
    let way = times wait c.requires.speed in
    let f0 = fits w64 c.requires.begin (lit< tt) in
    let f3 = fits w64 c.requires.speed (lit< tt) in
    let place : IsWithin (2 ^ 33 * 40000000 + 2 ^ 42 * 40000) c.moved.result =
    as_within (simp to_z-of_z at c.moved.ensures.value) (plus (times (size.d t) c.requires.begin) (times (size.n t) c.requires.speed)) in
    let twice = times two place in
    let f1 = fits w64 (size.d t) (lit< tt) in
    let f2 = fits w64 wait (lit< tt) in
    let f4 = fits w64 way (lit< tt) in
    let f5 = fits w64 place (lit< tt) in
    let f6 = fits w64 twice (lit< tt) in
    simp (e, to_z-of_z) (fits w64 (plus twice way) (lit< tt))

pub returns : goal.returns
returns c =
    let t : IsMomentInRange c.args.moment.now = search rules in
    let e = small_kept c.args.secs (omega (arith, c.requires.secs)) in
    let wait = times (natural 120 c.args.secs c.requires.secs) (size.d t) in
    let way = times wait c.requires.speed in
    let f0 = fits w64 c.requires.begin (lit< tt) in
    let f3 = fits w64 c.requires.speed (lit< tt) in
    let place : IsWithin (2 ^ 33 * 40000000 + 2 ^ 42 * 40000) c.moved.result =
    as_within (simp to_z-of_z at c.moved.ensures.value) (plus (times (size.d t) c.requires.begin) (times (size.n t) c.requires.speed)) in
    let twice = times two place in
    let all = plus twice way in
    let f1 = fits w64 (size.d t) (lit< tt) in
    let f2 = fits w64 wait (lit< tt) in
    let f4 = fits w64 way (lit< tt) in
    let f5 = fits w64 place (lit< tt) in
    let f6 = fits w64 twice (lit< tt) in
    let f7 = fits w64 all (lit< tt) in
    let moved = simp to_z-of_z at c.moved.ensures.value in
    simp (e, to_z-of_z) (record {
      value = λ i. pos 2 *ℤ moved i +ℤ pos c.args.secs *ℤ c.args.moment.now.den *ℤ c.args.speed;
      size = omega (arith, all.size);
    })
