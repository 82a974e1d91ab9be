use Rattle.daa_config.specs.declared.candidate.Candidate.TheVariants.{Hold}
use Rattle.daa_config.specs.Settings.{rates_of}
use Rattle.daa_legs.proofs.StraightHold.{hold_run, from_start}
use Rattle.daa_alert.proofs.halving.meets_within.Goals as goal

pub returns : goal.returns
returns c =
    let run = hold_run c.args.own.now (rates_of c.args.config.now) c.args.hold.now c.args.m c.requires.hold in
    let seconds = c.meets_on_run.ensures c.args.config.now c.args.own.now Hold run in
    let start = from_start c.args.config.now c.args.own.now Hold c.args.aircraft.now c.args.volume.now c.args.m in
    ((λ t. start.0 (seconds.0 t)), (λ m. seconds.1 (start.1 m)))
