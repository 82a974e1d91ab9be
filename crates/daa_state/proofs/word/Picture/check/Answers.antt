use Rattle.std.proofs.Common.{◌≡◌, ◌≤◌, ◌∙◌, List, length, subst, sym, arith}
use Rattle.std.proofs.lemmas.Result.{err_from_is_err_and}
use Rattle.daa_state.specs.Checked.{fault_from}
use Rattle.daa_state.specs.declared.word.Traffic.{Traffic}
use Rattle.daa_state.proofs.TakenLemmas.{below-more, taken-range, next_aircraft, whole, taken_whole, fault_passed, fault_found, fault_past, fault_many, fault_own, fault_traffic}
use Rattle.daa_state.proofs.word.Picture.check.Goals as goal

pub loop-place-preserved : goal.loop-place-preserved
loop-place-preserved c =
    let traffic : List Traffic = c.args.traffic.now in (
      next_aircraft traffic c.loop-place.all.items c.push.new.self.items c.loop-place.place c.index-traffic-place.result c.loop-place-test.true c.loop-place.invariant.0
          c.index-traffic-place.is c.push.ensures.items,
      below-more traffic c.loop-place.place c.loop-place.invariant.1 c.in_ok-test_aircraft.ensures.taken,
      fault_passed traffic c.loop-place.place c.index-traffic-place.result (fault_from traffic 0 traffic) c.loop-place-test.true c.in_ok-test_aircraft.ensures.sound
          c.loop-place.invariant.2,
    )

pub returns-clause-range : goal.returns-clause-range
returns-clause-range c =
    let traffic : List Traffic = c.args.traffic.now in
    let all : List Traffic = c.loop-place.all.items in
    let is : all ≡ traffic = whole traffic all c.loop-place.place c.loop-place-test.false c.loop-place.invariant.0 in
    let few : length traffic ≤ 64 = omega (arith, c.if-traffic-gt-MOST_AIRCRAFT.false) in
    record {
      own = c.in-Ok.ensures.range;
      traffic = taken-range all (taken_whole traffic all c.loop-place.place c.loop-place-test.false c.loop-place.auto.place-end c.loop-place.invariant.0 c.loop-place.invariant.1);
      count = subst (λ (l : List Traffic). length l ≤ 64) (sym is) few;
    }

pub returns-clause-different : goal.returns-clause-different
returns-clause-different c =
    taken_whole c.args.traffic.now c.loop-place.all.items c.loop-place.place c.loop-place-test.false c.loop-place.auto.place-end c.loop-place.invariant.0
    c.loop-place.invariant.1

pub returns-then-traffic-gt-MOST_AIRCRAFT-clause-refused : goal.returns-then-traffic-gt-MOST_AIRCRAFT-clause-refused
returns-then-traffic-gt-MOST_AIRCRAFT-clause-refused c = fault_many c.args.own c.args.traffic.now (omega (arith, c.if-traffic-gt-MOST_AIRCRAFT.true))

pub returns-in-Err-clause-refused : goal.returns-in-Err-clause-refused
returns-in-Err-clause-refused c =
    let few : length c.args.traffic.now ≤ 64 = omega (arith, c.if-traffic-gt-MOST_AIRCRAFT.false) in
    fault_own c.args.own c.args.traffic.now c.in-Err.fault few c.in-Err.ensures.refused

pub returns-in_err-test_aircraft-clause-refused : goal.returns-in_err-test_aircraft-clause-refused
returns-in_err-test_aircraft-clause-refused c =
    let traffic : List Traffic = c.args.traffic.now in
    let few : length traffic ≤ 64 = omega (arith, c.if-traffic-gt-MOST_AIRCRAFT.false) in
    let p = err_from_is_err_and c.from_residual.result c.from_residual.ensures.1 in
    rw (p.1, p.2)
    (fault_traffic c.args.own traffic few c.in-Ok.ensures.sound
    ∙ fault_found traffic c.loop-place.place _ (fault_from traffic 0 traffic) c.loop-place-test.true c.in_err-test_aircraft.ensures.refused
    c.loop-place.invariant.2)

pub returns-clause-sound : goal.returns-clause-sound
returns-clause-sound c =
    let traffic : List Traffic = c.args.traffic.now in
    let few : length traffic ≤ 64 = omega (arith, c.if-traffic-gt-MOST_AIRCRAFT.false) in
    fault_traffic c.args.own traffic few c.in-Ok.ensures.sound
    ∙ fault_past traffic c.loop-place.place (fault_from traffic 0 traffic) c.loop-place-test.false c.loop-place.invariant.2
