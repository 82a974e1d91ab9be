use Rattle.std.proofs.Common.{refl}
use Rattle.daa_config.specs.declared.candidate.Candidate.TheVariants.{Hold}
use Rattle.daa_scan.specs.Inside.Rounds.{settings_in, own_in, aircraft_in}
use Rattle.daa_scan.proofs.Marks.{hold_there, one_more, adds_by}
use Rattle.daa_scan.proofs.marking.present_mask.Goals as goal

pub returns : goal.returns
returns c old is =
    let r = c.args.round.now in
    adds_by (settings_in r) (own_in r) (aircraft_in r) 0 Hold (hold_there (settings_in r) 0 refl) r.l old c.args.mask c.with_level.result
    (λ h. one_more (settings_in r) (own_in r) Hold (aircraft_in r) r.l old c.args.mask h r.level r.known.there c.violates_on-met.result c.with_level.result
    ((λ t. c.requires.seconds.0 (c.violates_on-met.ensures.0 t)), (λ m. c.violates_on-met.ensures.1 (c.requires.seconds.1 m)))
    c.with_level.ensures.met c.with_level.ensures.not_met)
    is
