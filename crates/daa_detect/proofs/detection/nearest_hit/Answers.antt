use Rattle.std.proofs.Common.{pos, ◌≤ℤ◌, ◌<ℤ◌, arith, rules}
use Rattle.std.proofs.lemmas.Int.{ints}
use Rattle.daa_fixed.specs.Leg.{IsLegInRange}
use Rattle.daa_taumod.specs.Volume.{IsVolumeInRange}
use Rattle.daa_detect.specs.Inside.Motion.{rate_of}
use Rattle.daa_detect.proofs.Sizes.{IsMotionInRange, margin-kept}
use Rattle.daa_detect.proofs.DecidingTimes.{missed, first_decides, is_ahead, approach_hits}
use Rattle.daa_detect.proofs.detection.nearest_hit.Goals as goal

pub returns-then-motion-lt0 : goal.returns-then-motion-lt0
returns-then-motion-lt0 c =
    let m = c.motion_of-motion.result in
    let s : IsMotionInRange m = search rules in
    let kept = margin-kept s in
    missed c.args.leg.now c.args.volume.now m c.motion_of-motion.ensures (omega (arith, ints))

pub end_if_held-requires-clause-passes : goal.end_if_held-requires-clause-passes
end_if_held-requires-clause-passes c =
    let m = c.motion_of-motion.result in
    let s : IsMotionInRange m = search rules in
    let kept = margin-kept s in
    omega (arith, ints)

pub returns-then-rate_at-ge0 : goal.returns-then-rate_at-ge0
returns-then-rate_at-ge0 c =
    let m = c.motion_of-motion.result in
    let r : IsLegInRange c.args.leg.now = search rules in
    let v : IsVolumeInRange c.args.volume.now = search rules in
    let first = c.in_ok-first.first in
    let last = c.in_ok-first.last in
    let up : pos 0 ≤ℤ rate_of m first.num first.den = omega (arith, ints) in
    first_decides c.args.leg.now c.args.volume.now m c.motion_of-motion.ensures r v first last c.in_ok-first.ensures.times up _ c.end_if_held.ensures

pub falling_hit-requires-clause-passes : goal.falling_hit-requires-clause-passes
falling_hit-requires-clause-passes c =
    let m = c.motion_of-motion.result in
    let s : IsMotionInRange m = search rules in
    let kept = margin-kept s in
    omega (arith, ints)

pub closest_approach-requires : goal.closest_approach-requires
closest_approach-requires c =
    let m = c.motion_of-motion.result in
    let r : IsLegInRange c.args.leg.now = search rules in
    let v : IsVolumeInRange c.args.volume.now = search rules in
    let first = c.in_ok-first.first in
    let last = c.in_ok-first.last in
    let down : rate_of m first.num first.den <ℤ pos 0 = omega (arith, ints) in
    let up : pos 0 <ℤ rate_of m last.num last.den = omega (arith, ints) in
    is_ahead c.args.leg.now c.args.volume.now m c.motion_of-motion.ensures r v first last c.in_ok-first.ensures.times down up

pub returns : goal.returns
returns c =
    let m = c.motion_of-motion.result in
    let s : IsMotionInRange m = search rules in
    let kept = margin-kept s in
    let r : IsLegInRange c.args.leg.now = search rules in
    let v : IsVolumeInRange c.args.volume.now = search rules in
    let first = c.in_ok-first.first in
    let last = c.in_ok-first.last in
    let down : rate_of m first.num first.den <ℤ pos 0 = omega (arith, ints) in
    let up : pos 0 <ℤ rate_of m last.num last.den = omega (arith, ints) in
    let passes : pos 0 ≤ℤ m.margin = omega (arith, ints) in
    rw (c.closest_approach.ensures.num, c.closest_approach.ensures.den) (approach_hits c.args.leg.now
    c.args.volume.now m c.motion_of-motion.ensures r v first last c.in_ok-first.ensures.times down up passes)
