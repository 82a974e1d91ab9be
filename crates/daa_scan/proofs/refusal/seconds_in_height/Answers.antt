use Rattle.daa_scan.proofs.Refusing.{window_seconds, no_seconds}
use Rattle.daa_scan.proofs.refusal.seconds_in_height.Goals as goal

pub returns-in-Some : goal.returns-in-Some
returns-in-Some c = window_seconds c.args.present.now c.args.volume.now c.in-Some.begin c.in-Some.end c.first_second.result c.last_second.result
    c.in-Some.ensures.times c.first_second.ensures c.last_second.ensures.last

pub returns-in-None : goal.returns-in-None
returns-in-None c = no_seconds c.args.present.now c.args.volume.now _ c.in-None.ensures.times
