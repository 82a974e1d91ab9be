use Rattle.daa_config.specs.declared.candidate.Candidate.TheVariants.{Hold}
use Rattle.daa_config.specs.Settings.{rates_of}
use Rattle.daa_legs.proofs.StraightHold.{hold_run, from_start}
use Rattle.daa_scan.proofs.refusal.present_run.Goals as goal

pub returns-clause-seconds : goal.returns-clause-seconds
returns-clause-seconds c volume =
    let e = c.args.encounter.now in
    let run = hold_run e.own.now (rates_of e.config.now) e.hold.now c.args.secs e.known.leg in
    let seconds = c.relative_run_from.ensures.seconds e.config.now e.own.now Hold volume run in
    let start = from_start e.config.now e.own.now Hold e.aircraft.now volume c.args.secs in
    ((λ t. start.0 (seconds.0 t)), (λ m. seconds.1 (start.1 m)))
