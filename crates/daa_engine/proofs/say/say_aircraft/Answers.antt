use Rattle.daa_engine.specs.Inside.Written.{aircraft_text}
use Rattle.daa_report.proofs.HeldLemmas.{after, cut}
use Rattle.daa_engine.proofs.say.say_aircraft.Goals as goal

pub returns-in_err-say_now : goal.returns-in_err-say_now
unfolding aircraft_text
returns-in_err-say_now g c = cut _ _ _ c.from_residual.ensures.1 c.in_err-say_now.ensures

pub returns : goal.returns
unfolding aircraft_text
returns g c = after _ c.in_ok-say_now.ensures c.say_alert.ensures
