use Rattle.std.proofs.Common.{◌-◌}
use Rattle.daa_pool.specs.Seat.{view, IsSeatOf}
use Rattle.daa_pool.specs.Pool.{AreOpening}
use Rattle.daa_pool.specs.Inside.Dealing.{IsLast}
use Rattle.daa_pool.proofs.pool.Pool.deal.Given as goal

abbrev pub invariant-loop-number : goal.invariant-loop-number
invariant-loop-number l = record {
  seats : AreOpening l.self l.seats.items (l.number - 1) (view l.fn.first).answers;
  pool : IsSeatOf l.self l.last;
  last : IsLast (view l.last) (l.number - 1) l.self.workers (view l.fn.first).answers;
}
