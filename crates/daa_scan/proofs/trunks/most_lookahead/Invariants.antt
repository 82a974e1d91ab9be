use Rattle.std.proofs.Common.{◌≤◌}
use Rattle.daa_scan.specs.Inside.Trunks.{IsAhead}
use Rattle.daa_scan.proofs.trunks.most_lookahead.Given as goal

-- the greatest of the levels so far
abbrev pub invariant-loop-l : goal.invariant-loop-l
invariant-loop-l l = record {
  few : l.most ≤ 180;
  all : IsAhead l.config l.l l.most;
}
