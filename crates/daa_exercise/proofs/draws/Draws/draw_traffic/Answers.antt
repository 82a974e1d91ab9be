use Rattle.std.proofs.Common.{◌≡◌, ◌∙◌, List, length, ap, sym, arith}
use Rattle.daa_state.specs.declared.word.Traffic.{Traffic}
use Rattle.daa_exercise.specs.Inside.Drawing.{outputs_from}
use Rattle.daa_exercise.proofs.DrawLemmas.{none_after}
use Rattle.daa_exercise.proofs.MoveLemmas.{no_traffic, traffic_count, traffic_more}
use Rattle.daa_exercise.proofs.draws.Draws.draw_traffic.Goals as goal

pub loop-i-init : goal.loop-i-init
loop-i-init c = record {
  items = no_traffic (outputs_from c.args.self.now) c.args.own.now.alt c.clear.new.self.items c.clear.ensures;
  rest = sym (none_after c.args.self.now);
}

pub push-requires : goal.push-requires
push-requires c =
    let count : length c.loop-i.traffic.items ≡ c.loop-i.i =
    ap (λ (xs : List Traffic). length xs) c.loop-i.invariant.items
    ∙ traffic_count (outputs_from c.args.self.now) c.args.own.now.alt c.loop-i.i 0 in
    (omega arith, omega (arith, count, c.loop-i-test.true, c.requires.few))

pub loop-i-preserved : goal.loop-i-preserved
loop-i-preserved c =
    let more = traffic_more c.args.self.now c.loop-i.self c.next_aircraft.new.self c.args.own.now.alt c.loop-i.i c.loop-i.traffic.items c.push.new.self.items c.next_aircraft.result
    c.loop-i.invariant.rest c.next_aircraft.ensures.rest c.loop-i.invariant.items c.next_aircraft.ensures.value c.push.ensures.items in
    record { items = more.0; rest = more.1 }
