use Rattle.std.proofs.Common.{vec_len}
use Rattle.daa_pool.proofs.Gathering.{IsGathering, IsReading}
use Rattle.daa_pool.proofs.pool.Pool.gather.Given as goal

abbrev pub invariant-loop-other : goal.invariant-loop-other
invariant-loop-other l = IsGathering l.self l.fn.seats.items l.seats.items l.seat

abbrev pub decreases-loop-other : goal.decreases-loop-other
decreases-loop-other l = vec_len l.seats

abbrev pub invariant-loop-unit : goal.invariant-loop-unit
invariant-loop-unit l = IsReading l.self l.fn.seats.items l.seat l.words l.unit
