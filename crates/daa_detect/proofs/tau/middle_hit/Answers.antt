use Rattle.std.proofs.Common.{pos, ◌≤ℤ◌, ◌<ℤ◌, arith, rules}
use Rattle.std.proofs.lemmas.Int.{ints}
use Rattle.daa_fixed.specs.Leg.{IsLegInRange}
use Rattle.daa_taumod.specs.Volume.{IsVolumeInRange}
use Rattle.daa_detect.specs.Inside.Motion.{middle_rate_of}
use Rattle.daa_detect.proofs.TauDecides.{first_middle, last_middle, middle_ahead, middle_clear, middle_hits}
use Rattle.daa_detect.proofs.tau.middle_hit.Goals as goal

pub returns-then-middle_rate_at-ge0 : goal.returns-then-middle_rate_at-ge0
returns-then-middle_rate_at-ge0 c =
    let r : IsLegInRange c.args.leg.now = search rules in
    let v : IsVolumeInRange c.args.volume.now = search rules in
    let first = c.args.first.now in
    let up : pos 0 ≤ℤ middle_rate_of c.args.motion.now c.args.volume.now.tthr first.num first.den = omega (arith, ints) in
    first_middle c.args.leg.now c.args.volume.now c.args.motion.now c.requires.motion r v c.args.first.now c.args.last.now c.requires.window c.requires.tau c.requires.passes up _ c.end_if_held.ensures

pub returns-then-middle_rate_at-le0 : goal.returns-then-middle_rate_at-le0
returns-then-middle_rate_at-le0 c =
    let r : IsLegInRange c.args.leg.now = search rules in
    let v : IsVolumeInRange c.args.volume.now = search rules in
    let last = c.args.last.now in
    let down : middle_rate_of c.args.motion.now c.args.volume.now.tthr last.num last.den ≤ℤ pos 0 = omega (arith, ints) in
    last_middle c.args.leg.now c.args.volume.now c.args.motion.now c.requires.motion r v c.args.first.now c.args.last.now c.requires.window c.requires.tau c.requires.passes down c.requires.clear

pub middle-requires-clause-ahead : goal.middle-requires-clause-ahead
middle-requires-clause-ahead c =
    let r : IsLegInRange c.args.leg.now = search rules in
    let v : IsVolumeInRange c.args.volume.now = search rules in
    let first = c.args.first.now in
    let last = c.args.last.now in
    let down : middle_rate_of c.args.motion.now c.args.volume.now.tthr first.num first.den <ℤ pos 0 = omega (arith, ints) in
    let up : pos 0 <ℤ middle_rate_of c.args.motion.now c.args.volume.now.tthr last.num last.den = omega (arith, ints) in
    middle_ahead c.args.leg.now c.args.volume.now c.args.motion.now c.requires.motion r v c.args.first.now c.args.last.now c.requires.window c.requires.tau c.requires.passes down up

pub returns-then-held : goal.returns-then-held
returns-then-held c =
    let r : IsLegInRange c.args.leg.now = search rules in
    let v : IsVolumeInRange c.args.volume.now = search rules in
    let first = c.args.first.now in
    let last = c.args.last.now in
    let down : middle_rate_of c.args.motion.now c.args.volume.now.tthr first.num first.den <ℤ pos 0 = omega (arith, ints) in
    let up : pos 0 <ℤ middle_rate_of c.args.motion.now c.args.volume.now.tthr last.num last.den = omega (arith, ints) in
    rw (c.middle.ensures.num, c.middle.ensures.den) (middle_hits c.args.leg.now
    c.args.volume.now c.args.motion.now c.requires.motion r v c.args.first.now c.args.last.now c.requires.window
    c.requires.tau c.requires.passes down up (c.is_tau_within_in_middle-held.ensures.0 c.if-held.true))

pub returns-else-held : goal.returns-else-held
returns-else-held c =
    let r : IsLegInRange c.args.leg.now = search rules in
    let v : IsVolumeInRange c.args.volume.now = search rules in
    let first = c.args.first.now in
    let last = c.args.last.now in
    let down : middle_rate_of c.args.motion.now c.args.volume.now.tthr first.num first.den <ℤ pos 0 = omega (arith, ints) in
    let up : pos 0 <ℤ middle_rate_of c.args.motion.now c.args.volume.now.tthr last.num last.den = omega (arith, ints) in
    middle_clear c.args.leg.now c.args.volume.now c.args.motion.now c.requires.motion
    r v c.args.first.now c.args.last.now c.requires.window c.requires.tau c.requires.passes down up
    (λ h. absurd (cc (c.is_tau_within_in_middle-held.ensures.1 h, c.if-held.false)))
