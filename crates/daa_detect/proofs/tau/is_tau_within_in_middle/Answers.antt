use Rattle.std.proofs.Common.{◌*ℤ◌, ℤ, pos, ap, lit<, rules, w64, to_z-of_z, refl}
use mir.Syntax.{w128}
use Rattle.daa_fixed.specs.Flat.{square_of}
use Rattle.daa_fixed.specs.Leg.{IsLegInRange}
use Rattle.daa_fixed.specs.Size.{IsWithin}
use Rattle.daa_fixed.proofs.Bounds.{times, fits, as_within, le_test}
use Rattle.daa_fixed.proofs.LegSizes as leg
use Rattle.daa_fixed.proofs.LegSizes.{natural}
use Rattle.daa_detect.proofs.Sizes.{IsMotionInRange, of_motion, two, secs_kept}
use Rattle.daa_detect.proofs.tau.is_tau_within_in_middle.Goals as goal

pub overflow_mul-miss : goal.overflow_mul-miss
overflow_mul-miss c =
    let r : IsLegInRange c.args.leg.now = search rules in
    let x : IsWithin 3200000000000 c.miss.result = as_within c.miss.ensures (leg.sxv r) in
    let y = times two x in
    let f1 = fits w64 x (lit< tt) in
    simp to_z-of_z (fits w64 y (lit< tt))

pub overflow_mul-way : goal.overflow_mul-way
overflow_mul-way c =
    let s : IsMotionInRange c.args.motion.now = search rules in
    let e = secs_kept c.args.secs c.requires.secs in
    let way = times (natural 120 c.args.secs c.requires.secs) s.speed in
    simp (e, of_motion) (fits w64 way (lit< tt))

pub overflow_mul-result : goal.overflow_mul-result
overflow_mul-result c =
    let r : IsLegInRange c.args.leg.now = search rules in
    let x : IsWithin 3200000000000 c.miss.result = as_within c.miss.ensures (leg.sxv r) in
    let y = times two x in
    let f1 = fits w64 x (lit< tt) in
    let f2 = fits w64 y (lit< tt) in
    let f3 = fits w128 y (lit< tt) in
    simp to_z-of_z (fits w128 (times y y) (lit< tt))

pub overflow_mul-result-2 : goal.overflow_mul-result-2
overflow_mul-result-2 c =
    let s : IsMotionInRange c.args.motion.now = search rules in
    let e = secs_kept c.args.secs c.requires.secs in
    let way = times (natural 120 c.args.secs c.requires.secs) s.speed in
    let f2 = fits w64 way (lit< tt) in
    let f3 = fits w128 way (lit< tt) in
    simp (e, of_motion, to_z-of_z) (fits w128 (times way way) (lit< tt))

pub returns : goal.returns
returns c =
    let r : IsLegInRange c.args.leg.now = search rules in
    let x : IsWithin 3200000000000 c.miss.result = as_within c.miss.ensures (leg.sxv r) in
    let y = times two x in
    let f1 = fits w64 x (lit< tt) in
    let s : IsMotionInRange c.args.motion.now = search rules in
    let e = secs_kept c.args.secs c.requires.secs in
    let way = times (natural 120 c.args.secs c.requires.secs) s.speed in
    let f2 = fits w64 y (lit< tt) in
    let f3 = fits w128 y (lit< tt) in
    let f4 = fits w128 (times y y) (lit< tt) in
    let f5 = fits w64 way (lit< tt) in
    let f6 = fits w128 way (lit< tt) in
    let f7 = fits w128 (times way way) (lit< tt) in
    simp (e, of_motion, to_z-of_z) (le_test _ _ _ _ (ap (λ (z : ℤ). square_of (pos 2 *ℤ z)) c.miss.ensures) refl)
