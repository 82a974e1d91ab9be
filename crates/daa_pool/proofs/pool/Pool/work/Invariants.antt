use Rattle.std.proofs.Common.{◌-◌, length}
use Rattle.daa_pool.specs.Seat.{view, IsSeatOf, IsFree}
use Rattle.daa_pool.specs.Work.{GoesOn}
use Rattle.daa_pool.proofs.pool.Pool.work.Given as goal

abbrev pub invariant-loop-piece : goal.invariant-loop-piece
invariant-loop-piece g l = record {
  pool : IsSeatOf l.self l.seat;
  free : IsFree (view l.seat);
  until : GoesOn (view l.initial.seat) (view l.seat);
}

abbrev pub decreases-loop-piece : goal.decreases-loop-piece
decreases-loop-piece g l = length (view l.seat).answers - length (view l.seat).settled
