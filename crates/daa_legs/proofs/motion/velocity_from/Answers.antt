use Rattle.std.proofs.Common.{rules, ◌∙◌, FitsSigned, w64, to_z-of_z}
use Rattle.daa_heading.specs.Heading.{velocity_of}
use Rattle.daa_legs.specs.Motion.{velocity_on}
use Rattle.daa_legs.proofs.CandidateCases.{track-other, speed-other}
use Rattle.daa_legs.proofs.motion.velocity_from.Goals as goal

pub returns-in_default : goal.returns-in_default
unfolding velocity_on
returns-in_default c =
    let f : FitsSigned w64 c.vertical_speed_at.result = search rules in
    let speed = speed-other c.args.own.now c.args.rates.now c.args.candidate c.args.k c.in_default.not-GroundSpeed in
    let track = track-other c.args.own.now c.args.rates.now c.args.candidate c.args.k c.in_default.not-Track in
    let flat = c.requires.present ∙ (λ i. velocity_of (speed i) (track i)) in
    simp to_z-of_z (λ i. record { flat = flat i; up = c.vertical_speed_at.ensures.value i })
