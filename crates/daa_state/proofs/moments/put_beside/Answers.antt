use Rattle.std.proofs.Common.{◌≡◌, ◌+◌, ◌<◌, ◌++◌, List, drop, length, map, set, subst, take}
use Rattle.std.proofs.lemmas.List.Edits.{map_over_more}
use Rattle.daa_state.specs.MomentStep.{beside}
use Rattle.daa_state.specs.declared.word.Traffic.{Traffic}
use Rattle.daa_state.proofs.moments.put_beside.Goals as goal

pub loop-aircraft-preserved : goal.loop-aircraft-preserved
loop-aircraft-preserved c =
    let now : List Traffic = c.loop-aircraft.aircraft-items in
    subst (λ (one : Traffic). set now c.loop-aircraft.aircraft-index (beside c.args.own one)
    ≡ map (beside c.args.own) (take (c.loop-aircraft.aircraft-index + 1) c.args.traffic.now.items) ++ drop (c.loop-aircraft.aircraft-index + 1) c.args.traffic.now.items)
    (c.aircraft-item.is) (map_over_more (beside c.args.own) c.args.traffic.now.items now c.loop-aircraft.aircraft-index c.aircraft-item.result
    (subst (λ (before : List Traffic). c.loop-aircraft.aircraft-index < length before) c.deref_mut-aircraft-items.ensures.value c.loop-aircraft-test.true)
    c.loop-aircraft.invariant c.aircraft-item.is)
