use Rattle.std.proofs.Common.{◌*◌, pos, ◌+ℤ◌, ◌*ℤ◌, lit<, arith, w64, to_z-of_z}
use Rattle.daa_fixed.specs.Size.{IsWithin}
use Rattle.daa_fixed.specs.Flat.{square_of}
use Rattle.daa_fixed.proofs.Bounds.{times, plus, fits, as_within}
use Rattle.daa_fixed.proofs.LegSizes as size
use Rattle.daa_fixed.proofs.LegSizes.{natural}
use Rattle.daa_margin.proofs.MomentSizes.{small_kept}
use Rattle.daa_margin.proofs.soon.true_square.Goals as goal

two : IsWithin 2 (pos 2)
two = record { size = omega arith }

pub overflow_add-result : goal.overflow_add-result
overflow_add-result c =
    let e = small_kept c.args.bounds.now.speed (omega (arith, c.requires.bounds.speed)) in
    let we = natural 30000 c.args.bounds.now.speed c.requires.bounds.speed in
    let wq : IsWithin 3200000000 c.speed_squared.result = as_within c.speed_squared.ensures (size.vv c.requires.leg) in
    let w2 = times two c.requires.speed in
    let wb = times w2 we in
    let f1 = fits w64 wq (lit< tt) in
    let f2 = fits w64 c.requires.speed (lit< tt) in
    let f3 = fits w64 w2 (lit< tt) in
    let f4 = fits w64 wb (lit< tt) in
    simp (e, to_z-of_z) (fits w64 (plus wq wb) (lit< tt))

pub overflow_add-result-2 : goal.overflow_add-result-2
overflow_add-result-2 c =
    let e = small_kept c.args.bounds.now.speed (omega (arith, c.requires.bounds.speed)) in
    let we = natural 30000 c.args.bounds.now.speed c.requires.bounds.speed in
    let wq : IsWithin 3200000000 c.speed_squared.result = as_within c.speed_squared.ensures (size.vv c.requires.leg) in
    let w2 = times two c.requires.speed in
    let wb = times w2 we in
    let f1 = fits w64 wq (lit< tt) in
    let f2 = fits w64 c.requires.speed (lit< tt) in
    let f3 = fits w64 w2 (lit< tt) in
    let f4 = fits w64 wb (lit< tt) in
    let f5 = fits w64 (plus wq wb) (lit< tt) in
    let f6 = fits w64 (times we we) (lit< tt) in
    simp (e, to_z-of_z) (fits w64 (plus (plus wq wb) (times we we)) (lit< tt))

pub returns : goal.returns
returns c =
    let e = small_kept c.args.bounds.now.speed (omega (arith, c.requires.bounds.speed)) in
    let we = natural 30000 c.args.bounds.now.speed c.requires.bounds.speed in
    let wq : IsWithin 3200000000 c.speed_squared.result = as_within c.speed_squared.ensures (size.vv c.requires.leg) in
    let w2 = times two c.requires.speed in
    let wb = times w2 we in
    let all = plus (plus wq wb) (times we we) in
    let f1 = fits w64 wq (lit< tt) in
    let f2 = fits w64 c.requires.speed (lit< tt) in
    let f3 = fits w64 w2 (lit< tt) in
    let f4 = fits w64 wb (lit< tt) in
    let f5 = fits w64 (plus wq wb) (lit< tt) in
    let f6 = fits w64 (times we we) (lit< tt) in
    let f7 = fits w64 all (lit< tt) in
    simp (e, to_z-of_z) (record {
      value = λ i. c.speed_squared.ensures i +ℤ pos 2 *ℤ c.args.speed *ℤ pos c.args.bounds.now.speed +ℤ square_of (pos c.args.bounds.now.speed);
      size = record { size = omega (arith, all.size) };
    })
