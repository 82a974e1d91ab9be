use Rattle.std.proofs.Common.{arith}
use Rattle.daa_state.specs.Picture.{aircraft_of}
use Rattle.daa_closers.specs.Closers.{MeetsWithinLevels}
use Rattle.daa_closers.proofs.Lists.{places_set, places_keep, places_all}
use Rattle.daa_closers.proofs.places.closers.Goals as goal
use Rattle.daa_closers.proofs.places.closers.Goals.{then-meets_some, else-meets_some}

pub loop-place-preserved : goal.loop-place-preserved
loop-place-preserved c = elim c.if-meets_some.branch [
  | then-meets_some w ↦ rw (w.places-is, w.with_place-places.ensures) (places_set
      (MeetsWithinLevels c.args.config.now c.args.picture.now.own c.args.candidate c.args.least c.args.greatest) (aircraft_of c.args.picture.now)
      c.loop-place.place c.loop-place.places c.aircraft_at-aircraft.result.now c.aircraft_at-aircraft.ensures.listed
      (c.meets_some.ensures.0 w.if-meets_some.true) c.loop-place.invariant)
  | else-meets_some w ↦ rw w.places-is (places_keep
      (MeetsWithinLevels c.args.config.now c.args.picture.now.own c.args.candidate c.args.least c.args.greatest) (aircraft_of c.args.picture.now)
      c.loop-place.place c.loop-place.places c.aircraft_at-aircraft.result.now c.aircraft_at-aircraft.ensures.listed
      (λ x. let t = c.meets_some.ensures.1 x in cc (t, w.if-meets_some.false)) c.loop-place.invariant)
]

pub returns : goal.returns
returns c = places_all (MeetsWithinLevels c.args.config.now c.args.picture.now.own c.args.candidate c.args.least c.args.greatest) (aircraft_of c.args.picture.now)
    c.loop-place.place c.loop-place.places (omega (arith, c.loop-place-test.false, c.loop-place.auto.place-end, c.len-place-end.ensures.value)) c.loop-place.invariant
