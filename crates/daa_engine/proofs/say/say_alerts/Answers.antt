use Rattle.std.proofs.Common.{◌+◌, sym, ap, take, drop, arith, None, slice_index_or}
use Rattle.std.specs.List.{flat_map, zip}
use Rattle.daa_engine.specs.declared.alerts.AircraftAlert.{AircraftAlert}
use Rattle.daa_engine.specs.Inside.Written.{aircraft_text, alerts_text}
use Rattle.daa_engine.proofs.LoopLemmas.{pair_more, pairs_all}
use Rattle.daa_report.proofs.HeldLemmas.{said_front, said_as, said_more}
use Rattle.daa_engine.proofs.say.say_alerts.Goals as goal

blank : AircraftAlert
blank = record { level_now = 0; alert = record { level = 0; first = None } }

pub returns-in_err-say_aircraft : goal.returns-in_err-say_aircraft
unfolding alerts_text blank
returns-in_err-say_aircraft g c =
    let i = c.loop-place.place in let ts = c.args.traffic.now in let fs = c.args.alerts.now in
    let p = pair_more ts fs i c.index-traffic-place.result blank c.requires c.loop-place-test.true c.index-traffic-place.is in
    said_front aircraft_text (zip ts fs) (take i (zip ts fs)) (drop (i + 1) (zip ts fs)) (c.index-traffic-place.result, slice_index_or fs i blank) _ _ c.from_residual.ensures.1
    p.1 c.loop-place.invariant c.in_err-say_aircraft.ensures

pub loop-place-preserved : goal.loop-place-preserved
unfolding blank
loop-place-preserved g c =
    let i = c.loop-place.place in let ts = c.args.traffic.now in let fs = c.args.alerts.now in
    let p = pair_more ts fs i c.index-traffic-place.result blank c.requires c.loop-place-test.true c.index-traffic-place.is in
    said_as (sym (ap (flat_map aircraft_text) p.0))
    (said_more aircraft_text (take i (zip ts fs)) (c.index-traffic-place.result, slice_index_or fs i blank) c.loop-place.invariant c.in_ok-say_aircraft.ensures)

pub returns : goal.returns
unfolding alerts_text
returns g c =
    let n = c.loop-place.auto in let t = c.loop-place-test.false in
    said_as (ap (flat_map aircraft_text) (pairs_all c.args.traffic.now c.args.alerts.now c.loop-place.place c.requires (omega arith))) c.loop-place.invariant
