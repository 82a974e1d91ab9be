use Rattle.std.proofs.Common.{◌≡◌, ◌≤◌, ◌∙◌, Some, None, length, map, arith}
use Rattle.daa_numbers.specs.States.{traffic_of}
use Rattle.daa_numbers.proofs.RefusalLemmas.{refused_many, refused_id, refused_picture}
use Rattle.daa_numbers.proofs.states.picture.Goals as goal

pub returns-then-traffic-gt-MOST_AIRCRAFT-clause-refused : goal.returns-then-traffic-gt-MOST_AIRCRAFT-clause-refused
returns-then-traffic-gt-MOST_AIRCRAFT-clause-refused c = refused_many c.args.own.now c.args.traffic.now (omega (arith, c.if-traffic-gt-MOST_AIRCRAFT.true))

pub returns-in-Err-clause-refused : goal.returns-in-Err-clause-refused
returns-in-Err-clause-refused c =
    let few : length c.args.traffic.now ≤ 64 = omega (arith, c.if-traffic-gt-MOST_AIRCRAFT.false) in
    refused_id c.args.own.now c.args.traffic.now c.in-Err.place few c.in-Err.ensures.refused

pub returns-in-Ok-check-clause-sound : goal.returns-in-Ok-check-clause-sound
returns-in-Ok-check-clause-sound c =
    let few : length c.args.traffic.now ≤ 64 = omega (arith, c.if-traffic-gt-MOST_AIRCRAFT.false) in
    let same : c.as_slice.result.now ≡ map traffic_of c.args.traffic.now = c.as_slice.ensures.value ∙ c.in-Ok.ensures.value in
    refused_picture c.args.own.now c.args.traffic.now c.as_slice.result.now None few c.in-Ok.ensures.sound same
    c.in-Ok-check.ensures.sound

pub returns-in-Err-check-clause-refused : goal.returns-in-Err-check-clause-refused
returns-in-Err-check-clause-refused c =
    let few : length c.args.traffic.now ≤ 64 = omega (arith, c.if-traffic-gt-MOST_AIRCRAFT.false) in
    let same : c.as_slice.result.now ≡ map traffic_of c.args.traffic.now = c.as_slice.ensures.value ∙ c.in-Ok.ensures.value in
    refused_picture c.args.own.now c.args.traffic.now c.as_slice.result.now (Some c.in-Err-check.fault) few c.in-Ok.ensures.sound same
    c.in-Err-check.ensures.refused
