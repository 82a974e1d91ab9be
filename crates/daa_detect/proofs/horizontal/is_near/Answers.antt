use Rattle.std.proofs.Common.{◌≡◌, pos, ◌≤ℤ◌, ◌<ℤ◌, arith, rules}
use Rattle.std.proofs.lemmas.Int.{ints}
use Rattle.daa_fixed.specs.Flat.{dot_of}
use Rattle.daa_fixed.proofs.Lengths.{dot_nonneg}
use Rattle.daa_detect.proofs.Sizes.{IsMotionInRange}
use Rattle.daa_detect.proofs.Margin.{near_is, still_near}
use Rattle.daa_detect.proofs.horizontal.is_near.Goals as goal

pub returns-then-motion-eq0 : goal.returns-then-motion-eq0
returns-then-motion-eq0 c =
    let s : IsMotionInRange c.args.motion.now = search rules in
    let point = c.args.point.now in
    let still : c.args.motion.now.speed_squared ≡ pos 0 = omega (arith, ints, s.speed.size) in
    let same = still_near c.args.leg.now c.args.volume.now c.args.motion.now c.requires.motion point.num point.den still point.positive in
    ((λ t. same.0 (c.begins_near.ensures.0 t)), (λ h. c.begins_near.ensures.1 (same.1 h)))

pub returns-else-motion-eq0 : goal.returns-else-motion-eq0
returns-else-motion-eq0 c =
    let s : IsMotionInRange c.args.motion.now = search rules in
    let point = c.args.point.now in
    let not_negative : pos 0 ≤ℤ dot_of c.args.leg.now.velocity.flat c.args.leg.now.velocity.flat = dot_nonneg c.args.leg.now.velocity.flat in
    let moves : pos 0 <ℤ dot_of c.args.leg.now.velocity.flat c.args.leg.now.velocity.flat = omega (arith, ints, s.speed.size, not_negative, c.requires.motion.speed_squared) in
    let same = near_is c.args.leg.now c.args.volume.now c.args.motion.now c.requires.motion point.num point.den moves in
    ((λ t. same.0 (c.is_modified_tau_within.ensures.0 t)), (λ h. c.is_modified_tau_within.ensures.1 (same.1 h)))
