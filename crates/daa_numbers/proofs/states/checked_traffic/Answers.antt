use Rattle.std.proofs.Common.{None, Some}
use Rattle.daa_numbers.proofs.TrafficLemmas.{refusal_by}
use Rattle.daa_numbers.proofs.states.checked_traffic.Goals as goal

pub returns-in-Ok-clause-sound : goal.returns-in-Ok-clause-sound
returns-in-Ok-clause-sound c = refusal_by c.args.traffic.now c.in-Some.one None c.in-Some.ensures.0 c.in-Some.ensures.1 c.in-Ok.ensures.sound

pub returns-in-Err-clause-refused : goal.returns-in-Err-clause-refused
returns-in-Err-clause-refused c = refusal_by c.args.traffic.now c.in-Some.one (Some c.in-Err.fault) c.in-Some.ensures.0 c.in-Some.ensures.1 c.in-Err.ensures.refused
