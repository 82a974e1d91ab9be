use Rattle.std.proofs.Common.{◌≡◌, ◌*◌}
use Rattle.daa_exercise.specs.Inside.Drawing.{after, outputs_from, traffic_at}
use Rattle.daa_exercise.proofs.draws.Draws.draw_traffic.Given as goal

-- the aircraft so far are drawn
abbrev pub invariant-loop-i : goal.invariant-loop-i
invariant-loop-i l = record {
  items : l.traffic.items ≡ traffic_at (outputs_from l.initial.self) l.own.alt l.i 0;
  rest : l.self ≡ after (6 * l.i) l.initial.self;
}
