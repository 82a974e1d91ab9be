use Rattle.std.proofs.Common.{◌*◌, ℤ, pos, sym, subst, ◌+ℤ◌, ◌*ℤ◌, ◌≤ℤ◌, lit<, arith, w64, to_z-of_z}
use Rattle.daa_fixed.specs.Size.{IsWithin}
use Rattle.daa_fixed.specs.Flat.{square_of}
use Rattle.daa_fixed.proofs.Bounds.{times, plus, fits}
use Rattle.daa_fixed.proofs.LegSizes.{natural}
use Rattle.daa_margin.proofs.MomentSizes.{small_kept}
use Rattle.daa_margin.proofs.Rooms.{square_within_nonneg}
use Rattle.daa_margin.proofs.soon.square_within.Goals as goal

four : IsWithin 4 (pos 4)
four = record { size = omega arith }

pub overflow_mul-result-4 : goal.overflow_mul-result-4
overflow_mul-result-4 c =
    let e = small_kept c.args.volume.now.tthr (omega (arith, c.requires.volume.tthr)) in
    let wt = natural 120 c.args.volume.now.tthr c.requires.volume.tthr in
    let wq = c.true_square.ensures.size in
    let f1 = fits w64 (times wt wt) (lit< tt) in
    let f2 = fits w64 wq (lit< tt) in
    simp (e, to_z-of_z) (fits w64 (times (times wt wt) wq) (lit< tt))

pub overflow_add-result : goal.overflow_add-result
overflow_add-result c =
    let e = small_kept c.args.volume.now.tthr (omega (arith, c.requires.volume.tthr)) in
    let k = small_kept c.args.volume.now.dthr (omega (arith, c.requires.volume.dthr)) in
    let wt = natural 120 c.args.volume.now.tthr c.requires.volume.tthr in
    let wd = natural 360000 c.args.volume.now.dthr c.requires.volume.dthr in
    let wq = c.true_square.ensures.size in
    let f1 = fits w64 (times wt wt) (lit< tt) in
    let f2 = fits w64 wq (lit< tt) in
    let f3 = fits w64 (times wd wd) (lit< tt) in
    let f4 = fits w64 (times four (times wd wd)) (lit< tt) in
    let f5 = fits w64 (times (times wt wt) wq) (lit< tt) in
    simp (e, k, to_z-of_z) (fits w64 (plus (times four (times wd wd)) (times (times wt wt) wq)) (lit< tt))

pub returns : goal.returns
returns c =
    let e = small_kept c.args.volume.now.tthr (omega (arith, c.requires.volume.tthr)) in
    let k = small_kept c.args.volume.now.dthr (omega (arith, c.requires.volume.dthr)) in
    let wt = natural 120 c.args.volume.now.tthr c.requires.volume.tthr in
    let wd = natural 360000 c.args.volume.now.dthr c.requires.volume.dthr in
    let wq = c.true_square.ensures.size in
    let all = plus (times four (times wd wd)) (times (times wt wt) wq) in
    let f0 = fits w64 c.requires.speed (lit< tt) in
    let f1 = fits w64 (times wt wt) (lit< tt) in
    let f2 = fits w64 wq (lit< tt) in
    let f3 = fits w64 (times wd wd) (lit< tt) in
    let f4 = fits w64 (times four (times wd wd)) (lit< tt) in
    let f5 = fits w64 (times (times wt wt) wq) (lit< tt) in
    let f6 = fits w64 all (lit< tt) in
    let square = simp to_z-of_z at c.true_square.ensures.value in
    simp (e, k, to_z-of_z) (record {
      value = λ i. pos 4 *ℤ square_of (pos c.args.volume.now.dthr) +ℤ square_of (pos c.args.volume.now.tthr) *ℤ square i;
      not_negative = subst (λ (z : ℤ). pos 0 ≤ℤ (pos 4 *ℤ square_of (pos c.args.volume.now.dthr) +ℤ square_of (pos c.args.volume.now.tthr) *ℤ z)) (sym square)
          (square_within_nonneg c.args.leg.now c.args.volume.now c.args.bounds.now c.args.speed c.requires.not_negative);
      size = record { size = omega (arith, all.size) };
    })
