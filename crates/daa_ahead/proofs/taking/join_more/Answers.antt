use Rattle.std.proofs.Common.{rules, subst, sym}
use Rattle.rtrb.specs.Ring.{received}
use Rattle.daa_ahead.specs.Bytes.{Bytes}
use Rattle.daa_ahead.specs.Inside.Taking.{Joins}
use Rattle.daa_ahead.proofs.TakingLemmas.{joins_more, room_after}
use Rattle.daa_ahead.proofs.taking.join_more.Goals as goal

pub loop-preserved : goal.loop-preserved
loop-preserved g c =
    let popped = c.in-Ok.ensures.ok in
    let piece = c.in-Ok.piece in
    record {
      ring = search rules;
      room = room_after g.J.Bound.most (received c.loop.consumer) (received c.pop.new.self) piece popped.0 popped.2;
      joins = λ from j. subst (λ (b : Bytes). Joins from (received c.pop.new.self) b) (sym c.put_on.ensures)
          (joins_more from (received c.loop.consumer) (received c.pop.new.self) c.loop.tray.items piece (c.loop.invariant.joins from j) popped.0);
    }
