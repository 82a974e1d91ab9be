use Rattle.std.proofs.Common.{◌≡◌, ◌++◌, drop, map, take}
use Rattle.daa_state.specs.MomentStep.{beside}
use Rattle.daa_state.proofs.moments.put_beside.Given as goal

-- the aircraft so far have the ownship's bounds too, and the others are as they were
abbrev pub invariant-loop-aircraft : goal.invariant-loop-aircraft
invariant-loop-aircraft l = l.aircraft-items ≡ map (beside l.fn.own) (take l.aircraft-index l.fn.traffic.items) ++ drop l.aircraft-index l.fn.traffic.items
