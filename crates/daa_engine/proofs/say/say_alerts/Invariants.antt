use Rattle.std.proofs.Common.{take, Ok}
use Rattle.std.specs.List.{flat_map, zip}
use Rattle.daa_report.specs.Held.{SaysOrHolds}
use Rattle.daa_report.specs.declared.writers.SinkFault.{SinkFault}
use Rattle.daa_engine.specs.Inside.Written.{aircraft_text}
use Rattle.daa_engine.proofs.say.say_alerts.Given as goal

-- the lines of the aircraft so far are said
abbrev pub invariant-loop-place : goal.invariant-loop-place
invariant-loop-place g l =
    SaysOrHolds {E = SinkFault} (g.K.Sink.taken l.fn.sink) (g.K.Sink.taken l.sink) l.fn.held l.held
    (g.K.Sink.faults l.fn.sink) (g.K.Sink.faults l.sink)
    (flat_map aircraft_text (take l.place (zip l.traffic l.alerts))) (Ok tt)
