use Rattle.daa_pool.specs.Seat.{view, IsSeatOf}
use Rattle.daa_pool.specs.Inside.Tour.{Toured}
use Rattle.daa_pool.proofs.pool.Pool.tour.Given as goal

abbrev pub invariant-loop-other : goal.invariant-loop-other
invariant-loop-other l = record {
  pool : IsSeatOf l.self l.seat;
  toured : Toured (view l.initial.seat) (view l.seat) l.fn.first l.other;
}
