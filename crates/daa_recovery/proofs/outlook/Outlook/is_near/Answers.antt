use Rattle.std.proofs.Common.{arith, refl, length, ap}
use Rattle.daa_state.specs.Picture.{aircraft_of}
use Rattle.daa_state.specs.declared.word.Traffic.{Traffic}
use Rattle.daa_legs.specs.Meeting.{ViolatesOn}
use Rattle.daa_recovery.specs.OutlookState.{OutlookState}
use Rattle.daa_recovery.proofs.ClosingLevels.{aircraft_first, aircraft_more, aircraft_all}
use Rattle.daa_recovery.proofs.outlook.Outlook.is_near.Goals as goal

pub loop-place-init : goal.loop-place-init
loop-place-init c =
    let p = c.args.self.now in aircraft_first p (λ (aircraft : Traffic). ViolatesOn p.settings p.picture.own c.args.candidate aircraft p.cylinder c.args.k)

pub returns-then-is_near_to : goal.returns-then-is_near_to
returns-then-is_near_to c = (
  (λ _. record { place = c.loop-place.place; aircraft = c.aircraft.result.now; there = c.aircraft.ensures.listed; is = c.is_near_to.ensures.0 c.if-is_near_to.true }),
  (λ _. refl),
)

pub loop-place-preserved : goal.loop-place-preserved
loop-place-preserved c =
    let p = c.args.self.now in
    aircraft_more p (λ (aircraft : Traffic). ViolatesOn p.settings p.picture.own c.args.candidate aircraft p.cylinder c.args.k) c.loop-place.place c.aircraft.result.now
    c.aircraft.ensures.listed (λ v. let t = c.is_near_to.ensures.1 v in cc (t, c.if-is_near_to.false)) c.loop-place.invariant

pub returns : goal.returns
returns c =
    let p = c.args.self.now in
    let same = ap (λ (q : OutlookState). length (aircraft_of q.picture)) c.self.view_is in (
      (λ t. absurd (cc t)),
      (λ x. absurd
          (aircraft_all p (λ (aircraft : Traffic). ViolatesOn p.settings p.picture.own c.args.candidate aircraft p.cylinder c.args.k) c.loop-place.place
          (omega (arith, c.loop-place-test.false, c.len-place-end.ensures.value, same)) c.loop-place.invariant x.place x.aircraft x.there x.is)),
    )
