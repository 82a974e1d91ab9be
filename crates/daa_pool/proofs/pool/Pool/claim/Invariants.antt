use Rattle.std.proofs.Common.{◌≡◌}
use Rattle.daa_range.specs.Range.{range_len}
use Rattle.daa_pool.specs.Seat.{view, IsSeatOf, IsFree}
use Rattle.daa_pool.proofs.Looks.{LooksHome}
use Rattle.daa_pool.proofs.pool.Pool.claim.Given as goal

abbrev pub invariant-loop-own : goal.invariant-loop-own
invariant-loop-own l = record {
  pool : IsSeatOf l.self l.seat;
  free : IsFree (view l.seat);
  bound : (view l.seat).bound ≡ l.own;
  looks : LooksHome (view l.fn.seat) (view l.seat);
}

abbrev pub decreases-loop-own : goal.decreases-loop-own
decreases-loop-own l = range_len l.own
