use Rattle.std.proofs.Common.{◌<◌, pos, ◌≤ℤ◌}
use Rattle.daa_config.specs.declared.level.Level.{Level}
use Rattle.daa_last.specs.Delayed.{ViolatesDelayed}
use Rattle.daa_last.proofs.Searching.{IsNoLevelBelow}
use Rattle.daa_last.proofs.side.is_struck_by.Given as goal

abbrev pub invariant-loop-l : goal.invariant-loop-l
invariant-loop-l l = record {
  none : IsNoLevelBelow l.config (λ (level : Level). (l.fn.k < level.lookahead) × ViolatesDelayed l.config l.own l.fn.candidate l.fn.m l.aircraft level.volume l.fn.k) l.l;
  from : l.config.numbers.resolve ≤ℤ pos l.l;
}
