use Rattle.std.proofs.Common.{arith, length, ap, subst}
use Rattle.daa_state.specs.Picture.{aircraft_of}
use Rattle.daa_recovery.specs.OutlookState.{OutlookState}
use Rattle.daa_recovery.specs.Inside.OutlookState.{IsOutlook}
use Rattle.daa_recovery.proofs.LastLegs.{near_never, late_never, needed_first, needed_more, needed_all, raised_closed}
use Rattle.daa_recovery.proofs.outlook.Outlook.time_on.Goals as goal

pub returns-then-last-bound : goal.returns-then-last-bound
returns-then-last-bound c = late_never c.args.self.now c.args.candidate c.args.last c.args.bound c.requires.last.closed c.if-last-bound.true

pub loop-place-init : goal.loop-place-init
loop-place-init c = needed_first c.args.self.now c.args.candidate c.args.rest.now.from c.args.last c.requires.last

pub returns-then-need-bound : goal.returns-then-need-bound
returns-then-need-bound c =
    late_never c.args.self.now c.args.candidate c.raised_beside-need.result c.args.bound
    (raised_closed c.args.self.now c.args.candidate c.args.rest.now.from c.loop-place.need c.raised_beside-need.result c.loop-place.place c.aircraft-aircraft.result.now
    c.aircraft-aircraft.ensures.listed c.loop-place.invariant.closed c.raised_beside-need.ensures)
    c.if-need-bound.true

pub returns-then-comes_near : goal.returns-then-comes_near
returns-then-comes_near c =
    let m = c.comes_near.ensures.0 c.if-comes_near.true in
    near_never c.args.self.now c.args.candidate m.leg c.args.bound m.before
    (record { place = c.loop-place.place; aircraft = c.aircraft-aircraft.result.now; there = c.aircraft-aircraft.ensures.listed; is = m.violates })

pub loop-place-preserved : goal.loop-place-preserved
loop-place-preserved c =
    needed_more c.args.self.now c.args.candidate c.args.rest.now.from c.loop-place.place c.loop-place.need c.raised_beside-need.result c.aircraft-aircraft.result.now
    c.aircraft-aircraft.ensures.listed c.raised_beside-need.ensures (λ m. let t = c.comes_near.ensures.1 m in cc (t, c.if-comes_near.false)) c.loop-place.invariant

pub time_after-requires-clause-last : goal.time_after-requires-clause-last
time_after-requires-clause-last c =
    let p = c.args.self.now in
    let q = subst (λ (p : OutlookState). IsOutlook p) c.self.view_is c.self.invariant in
    let same = ap (λ (p : OutlookState). length (aircraft_of p.picture)) c.self.view_is in
    needed_all p c.args.candidate c.args.rest.now.from c.loop-place.place c.args.last c.loop-place.need q.horizon
    (omega (arith, c.loop-place-test.false, c.len-place-end.ensures.value, same)) c.requires.last c.loop-place.invariant
