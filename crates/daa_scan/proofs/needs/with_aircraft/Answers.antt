use Rattle.daa_scan.proofs.Needed.{all_needed}
use Rattle.daa_scan.proofs.needs.with_aircraft.Goals as goal

pub returns-then-has_all-clause-idle : goal.returns-then-has_all-clause-idle
returns-then-has_all-clause-idle c reached = all_needed c.args.config.now c.args.own.now c.args.aircraft.now c.args.needs (c.has_all.ensures c.if-has_all.true)

pub returns-clause-idle : goal.returns-clause-idle
returns-clause-idle c reached = c.with_levels.ensures.idle
