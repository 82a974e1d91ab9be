use Rattle.std.proofs.Common.{inl, pos, ◌≤ℤ◌, ◌<ℤ◌, arith}
use Rattle.std.proofs.lemmas.Int.{ints}
use Rattle.daa_detect.specs.Inside.Motion.{rate_of}
use Rattle.daa_detect.proofs.Choices.{second}
use Rattle.daa_detect.proofs.Margin.{opening_is, taumod_is, tau_at_is, tcpa_is, tep_is}
use Rattle.daa_detect.proofs.horizontal.holds_at.Goals as goal

pub returns-then-rate_at-ge0 : goal.returns-then-rate_at-ge0
returns-then-rate_at-ge0 c =
    let point = c.args.point.now in
    let up : pos 0 ≤ℤ rate_of c.args.motion.now point.num point.den = omega (arith, ints) in
    let same = opening_is c.args.leg.now c.args.volume.now c.args.motion.now c.requires.motion point.num point.den up in
    ((λ t. same.0 (c.is_near.ensures.0 t)), (λ v. c.is_near.ensures.1 (same.1 v)))

pub returns-in-Taumod : goal.returns-in-Taumod
returns-in-Taumod c =
    let point = c.args.point.now in
    let down : rate_of c.args.motion.now point.num point.den <ℤ pos 0 = omega (arith, ints) in
    let same = taumod_is c.args.leg.now c.args.volume.now c.args.motion.now c.requires.motion point.num point.den point.positive c.requires.passes down c.in-Taumod.is in
    ((λ t. same.0 (c.is_modified_tau_within.ensures.0 t)), (λ v. c.is_modified_tau_within.ensures.1 (same.1 v)))

pub returns-in-Tep : goal.returns-in-Tep
returns-in-Tep c =
    let point = c.args.point.now in
    let down : rate_of c.args.motion.now point.num point.den <ℤ pos 0 = omega (arith, ints) in
    let same = tep_is c.args.leg.now c.args.volume.now c.args.motion.now c.requires.motion point.num point.den point.positive c.requires.passes down c.in-Tep.is in
    ((λ t. same.0 (c.is_entry_within.ensures.0 t)), (λ v. c.is_entry_within.ensures.1 (same.1 v)))

pub returns-then-is_tau_within : goal.returns-then-is_tau_within
returns-then-is_tau_within c =
    let point = c.args.point.now in
    let down : rate_of c.args.motion.now point.num point.den <ℤ pos 0 = omega (arith, ints) in
    let same = tau_at_is c.args.leg.now c.args.volume.now c.args.motion.now c.requires.motion point.num point.den point.positive c.requires.passes down c.in-Tau.is in
    ((λ t. same.0 (inl (c.is_tau_within.ensures.0 t))), (λ v. c.if-is_tau_within.true))

pub returns-else-is_tau_within : goal.returns-else-is_tau_within
returns-else-is_tau_within c =
    let point = c.args.point.now in
    let down : rate_of c.args.motion.now point.num point.den <ℤ pos 0 = omega (arith, ints) in
    let same = tau_at_is c.args.leg.now c.args.volume.now c.args.motion.now c.requires.motion point.num point.den point.positive c.requires.passes down c.in-Tau.is in
    let either = second c.is_tau_within.result c.is_near-else-is_tau_within.result c.is_tau_within.ensures c.is_near-else-is_tau_within.ensures c.if-is_tau_within.false in
    ((λ t. same.0 (either.0 t)), (λ v. either.1 (same.1 v)))

pub returns-then-is_closest_within : goal.returns-then-is_closest_within
returns-then-is_closest_within c =
    let point = c.args.point.now in
    let down : rate_of c.args.motion.now point.num point.den <ℤ pos 0 = omega (arith, ints) in
    let same = tcpa_is c.args.leg.now c.args.volume.now c.args.motion.now c.requires.motion point.num point.den point.positive c.requires.passes down c.in-Tcpa.is in
    ((λ t. same.0 (inl (c.is_closest_within.ensures.0 t))), (λ v. c.if-is_closest_within.true))

pub returns-else-is_closest_within : goal.returns-else-is_closest_within
returns-else-is_closest_within c =
    let point = c.args.point.now in
    let down : rate_of c.args.motion.now point.num point.den <ℤ pos 0 = omega (arith, ints) in
    let same = tcpa_is c.args.leg.now c.args.volume.now c.args.motion.now c.requires.motion point.num point.den point.positive c.requires.passes down c.in-Tcpa.is in
    let either = second c.is_closest_within.result c.is_near-else-is_closest_within.result c.is_closest_within.ensures c.is_near-else-is_closest_within.ensures c.if-is_closest_within.false in
    ((λ t. same.0 (either.0 t)), (λ v. either.1 (same.1 v)))
