use Rattle.std.proofs.Common.{pos, ◌≤ℤ◌}
use Rattle.daa_config.specs.declared.level.Level.{Level}
use Rattle.daa_last.specs.Inside.Search.{MeetsLate}
use Rattle.daa_last.proofs.Searching.{IsNoLevelBelow}
use Rattle.daa_last.proofs.search.is_closed.Given as goal

abbrev pub invariant-loop-l : goal.invariant-loop-l
invariant-loop-l l = record {
  open_below : IsNoLevelBelow l.config (λ (level : Level). MeetsLate l.config l.own l.rest.candidate l.fn.m l.aircraft level.volume l.rest.from level.lookahead) l.l;
  from : l.config.numbers.resolve ≤ℤ pos l.l;
}
