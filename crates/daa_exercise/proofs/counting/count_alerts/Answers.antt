use Rattle.std.proofs.Common.{◌<◌, ◌+◌, length, arith}
use Rattle.daa_state.specs.Picture.{aircraft_of}
use Rattle.daa_legs.specs.Alerts.{IsAlertLevel}
use Rattle.daa_exercise.proofs.TallyLemmas.{add_none, add_next, add_all, room_for, no_aircraft}
use Rattle.daa_exercise.proofs.counting.count_alerts.Goals as goal

pub loop-place-init : goal.loop-place-init
loop-place-init c = record {
  adds = add_none (IsAlertLevel c.args.config.now c.args.picture.now.own) (aircraft_of c.args.picture.now) c.args.tally.now;
  room = λ n h. room_for n (n + 0) c.args.tally.now (omega arith) h;
}

pub add-requires : goal.add-requires
add-requires c =
    let few = c.requires.accepted.few_levels in
    let within = (c.level_of.ensures no_aircraft).within in
    let there : c.loop-place.place < length (aircraft_of c.args.picture.now) = omega (arith, c.loop-place-test.true, c.len-place-end.ensures.value) in
    let count = c.requires.picture.count in record {
      level = omega (arith, few, within);
      room = c.loop-place.invariant.room 1 (room_for (1 + c.loop-place.place) 64 c.args.tally.now (omega (arith, there, count)) c.requires.room);
    }

pub loop-place-preserved : goal.loop-place-preserved
loop-place-preserved c =
    let there : c.loop-place.place < length (aircraft_of c.args.picture.now) = omega (arith, c.loop-place-test.true, c.len-place-end.ensures.value) in record {
      adds = add_next (IsAlertLevel c.args.config.now c.args.picture.now.own) (aircraft_of c.args.picture.now) c.loop-place.place c.level_of.result no_aircraft
          c.args.tally.now c.loop-place.tally c.add.new.self there (c.level_of.ensures no_aircraft) c.loop-place.invariant.adds c.add.ensures.counted;
      room = λ n h. c.add.ensures.room n (c.loop-place.invariant.room (n + 1) (room_for (n + 1 + c.loop-place.place) (n + (c.loop-place.place + 1)) c.args.tally.now (omega arith) h));
    }

pub returns : goal.returns
returns c = add_all (IsAlertLevel c.args.config.now c.args.picture.now.own) (aircraft_of c.args.picture.now) c.loop-place.place c.args.tally.now c.loop-place.tally
    (omega (arith, c.loop-place-test.false, c.len-place-end.ensures.value)) c.loop-place.invariant.adds
