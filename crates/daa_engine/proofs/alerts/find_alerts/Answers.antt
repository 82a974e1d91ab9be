use Rattle.std.proofs.Common.{◌≡◌, ◌<◌, ◌+◌, ℕ, List, length, slice_index_or, sym, subst, arith}
use Rattle.daa_state.specs.declared.word.Traffic.{Traffic}
use Rattle.daa_state.specs.Picture.{aircraft_of}
use Rattle.daa_engine.specs.Inside.Findings.{AreAircraftAlerts}
use Rattle.daa_engine.proofs.AlertLemmas.{alerts_more}
use Rattle.daa_engine.proofs.alerts.find_alerts.Goals as goal

pub loop-aircraft-preserved : goal.loop-aircraft-preserved
loop-aircraft-preserved c =
    let s = c.args.config.now in
    let p = c.args.picture.now in
    let i : ℕ = c.loop-aircraft.aircraft-index in
    let value = c.as_slice-aircraft-items.ensures.value in
    let lt : i < length (aircraft_of p) = subst (λ (ts : List Traffic). i < length ts) value (omega arith) in
    let at = subst (λ (ts : List Traffic). c.aircraft-item.result ≡ slice_index_or ts i c.aircraft-item.result) value c.aircraft-item.is in
    subst (AreAircraftAlerts s p.own (aircraft_of p) (i + 1)) (sym c.push.ensures.items)
    (alerts_more s p.own (aircraft_of p) i c.loop-aircraft.all.items c.aircraft-item.result c.find_alert.result c.loop-aircraft.invariant lt at c.find_alert.ensures)
