use Rattle.daa_state.specs.Picture.{aircraft_of}
use Rattle.daa_engine.specs.Inside.Findings.{AreAircraftAlerts}
use Rattle.daa_engine.proofs.alerts.find_alerts.Given as goal

-- the levels of the aircraft so far are found
abbrev pub invariant-loop-aircraft : goal.invariant-loop-aircraft
invariant-loop-aircraft l = AreAircraftAlerts l.config l.picture.own (aircraft_of l.picture) l.aircraft-index l.all.items
