use Rattle.std.proofs.Common.{pos, ◌≤ℤ◌}
use Rattle.daa_recovery.proofs.Horizons.{IsHorizonUpTo}
use Rattle.daa_recovery.proofs.outlook.horizon_of.Given as goal

-- the greatest lookahead of the levels so far that close
abbrev pub invariant-loop-l : goal.invariant-loop-l
invariant-loop-l l = record {
  so_far : IsHorizonUpTo l.config l.l l.horizon;
  from : l.config.numbers.resolve ≤ℤ pos l.l;
}
