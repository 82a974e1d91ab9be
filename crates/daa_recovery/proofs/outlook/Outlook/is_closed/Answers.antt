use Rattle.std.proofs.Common.{arith, refl, length, ap}
use Rattle.daa_state.specs.Picture.{aircraft_of}
use Rattle.daa_state.specs.declared.word.Traffic.{Traffic}
use Rattle.daa_recovery.specs.Inside.Legs.{IsClosedOn}
use Rattle.daa_recovery.specs.OutlookState.{OutlookState}
use Rattle.daa_recovery.proofs.ClosingLevels.{aircraft_first, aircraft_more, aircraft_all}
use Rattle.daa_recovery.proofs.outlook.Outlook.is_closed.Goals as goal

pub loop-place-init : goal.loop-place-init
loop-place-init c =
    let p = c.args.self.now in aircraft_first p (λ (aircraft : Traffic). IsClosedOn p c.args.candidate aircraft c.args.k)

pub returns-then-is_closed_by : goal.returns-then-is_closed_by
returns-then-is_closed_by c = (
  (λ _. record { place = c.loop-place.place; aircraft = c.aircraft.result.now; there = c.aircraft.ensures.listed; is = c.is_closed_by.ensures.0 c.if-is_closed_by.true }),
  (λ _. refl),
)

pub loop-place-preserved : goal.loop-place-preserved
loop-place-preserved c =
    let p = c.args.self.now in
    aircraft_more p (λ (aircraft : Traffic). IsClosedOn p c.args.candidate aircraft c.args.k) c.loop-place.place c.aircraft.result.now
    c.aircraft.ensures.listed (λ v. let t = c.is_closed_by.ensures.1 v in cc (t, c.if-is_closed_by.false)) c.loop-place.invariant

pub returns : goal.returns
returns c =
    let p = c.args.self.now in
    let same = ap (λ (q : OutlookState). length (aircraft_of q.picture)) c.self.view_is in (
      (λ t. absurd (cc t)),
      (λ x. absurd
          (aircraft_all p (λ (aircraft : Traffic). IsClosedOn p c.args.candidate aircraft c.args.k) c.loop-place.place
          (omega (arith, c.loop-place-test.false, c.len-place-end.ensures.value, same)) c.loop-place.invariant x.place x.aircraft x.there x.is)),
    )
