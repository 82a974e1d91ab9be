use Rattle.std.proofs.Common.{◌≤◌, List, length}
use Rattle.std.specs.List.{concat}
use Rattle.rtrb.specs.Ring.{received, SameConsumer}
use Rattle.daa_ahead.specs.Bytes.{Bytes}
use Rattle.daa_ahead.specs.Inside.Taking.{Joins}
use Rattle.daa_ahead.proofs.taking.join_more.Given as goal

abbrev pub invariant-loop : goal.invariant-loop
invariant-loop g l = record {
  ring : SameConsumer l.fn.consumer l.consumer;
  room : length (concat (received l.consumer)) ≤ g.J.Bound.most;
  joins : (from : List Bytes) → Joins from (received l.fn.consumer) l.fn.tray.items → Joins from (received l.consumer) l.tray.items;
}
