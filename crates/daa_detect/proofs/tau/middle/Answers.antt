use Rattle.std.proofs.Common.{arith, lit<, rules, w64, to_z-of_z}
use Rattle.std.proofs.lemmas.Int.{ints}
use Rattle.daa_fixed.proofs.Bounds.{times, plus, fits, zero_less, zero_less-within}
use Rattle.daa_fixed.proofs.LegSizes.{natural}
use Rattle.daa_detect.proofs.Sizes.{IsMotionInRange, of_motion, two, secs_kept}
use Rattle.daa_detect.proofs.tau.middle.Goals as goal

pub overflow_sub-result : goal.overflow_sub-result
overflow_sub-result c =
    let s : IsMotionInRange c.args.motion.now = search rules in
    let e = secs_kept c.args.secs c.requires.secs in
    let turn = times two s.rate in
    let way = times (natural 120 c.args.secs c.requires.secs) s.speed in
    let f1 = fits w64 turn (lit< tt) in
    let f2 = fits w64 way (lit< tt) in
    let f3 = fits w64 (plus turn way) (lit< tt) in
    simp (e, of_motion, to_z-of_z) (fits w64 (zero_less-within _ (plus turn way)) (lit< tt))

pub invariant_of-result : goal.invariant_of-result
invariant_of-result c =
    let s : IsMotionInRange c.args.motion.now = search rules in
    let e = secs_kept c.args.secs c.requires.secs in
    let turn = times two s.rate in
    let way = times (natural 120 c.args.secs c.requires.secs) s.speed in
    let f1 = fits w64 turn (lit< tt) in
    let f2 = fits w64 way (lit< tt) in
    let f3 = fits w64 (plus turn way) (lit< tt) in
    let f4 = fits w64 (zero_less-within _ (plus turn way)) (lit< tt) in
    let den = times two s.speed in
    let f5 = fits w64 den (lit< tt) in
    simp (e, of_motion, to_z-of_z) (record {
      not_negative = omega (arith, ints, c.requires.ahead.later);
      num_bound = omega (arith, ints, c.requires.ahead.small);
      positive = omega (arith, ints, c.requires.ahead.moves);
      den_bound = omega (arith, ints, den.size);
    })

pub returns-clause-num : goal.returns-clause-num
returns-clause-num c =
    let s : IsMotionInRange c.args.motion.now = search rules in
    let e = secs_kept c.args.secs c.requires.secs in
    let turn = times two s.rate in
    let way = times (natural 120 c.args.secs c.requires.secs) s.speed in
    let f1 = fits w64 turn (lit< tt) in
    let f2 = fits w64 way (lit< tt) in
    let f3 = fits w64 (plus turn way) (lit< tt) in
    let f4 = fits w64 (zero_less-within _ (plus turn way)) (lit< tt) in
    simp (e, of_motion, to_z-of_z) (zero_less _)

pub returns-clause-den : goal.returns-clause-den
returns-clause-den c =
    let s : IsMotionInRange c.args.motion.now = search rules in
    let f5 = fits w64 (times two s.speed) (lit< tt) in
    simp (of_motion, to_z-of_z)
