use Rattle.std.proofs.Common.{arith}
use Rattle.std.proofs.lemmas.Int.{ints}
use Rattle.daa_config.specs.declared.level.Level.{Level}
use Rattle.daa_last.specs.Inside.Search.{MeetsLate}
use Rattle.daa_last.proofs.Searching.{no_level_first, no_level_more, no_level_all}
use Rattle.daa_last.proofs.search.is_closed.Goals as goal

pub loop-l-init : goal.loop-l-init
loop-l-init c = record {
  open_below = no_level_first c.args.config.now
      (λ (level : Level). MeetsLate c.args.config.now c.args.own.now c.args.rest.now.candidate c.args.m c.args.aircraft.now level.volume
      c.args.rest.now.from level.lookahead) _ c.resolve-l.ensures.value;
  from = let e = c.resolve-l.ensures.value in omega (arith, ints, e);
}

pub loop-l-preserved : goal.loop-l-preserved
loop-l-preserved c = record {
  open_below = no_level_more c.args.config.now
      (λ (level : Level). MeetsLate c.args.config.now c.args.own.now c.args.rest.now.candidate c.args.m c.args.aircraft.now level.volume c.args.rest.now.from level.lookahead)
      c.loop-l.l c.level-level.result.now c.level-level.ensures.value
      (λ x. let t = c.meets_late.ensures.1 x in cc (t, c.if-meets_late.false)) c.loop-l.invariant.open_below;
  from = let f = c.loop-l.invariant.from in omega (arith, ints, f);
}

pub returns : goal.returns
returns c = (
  (λ t. absurd (cc t)),
  (λ x. absurd
      (no_level_all c.args.config.now
      (λ (level : Level). MeetsLate c.args.config.now c.args.own.now c.args.rest.now.candidate c.args.m c.args.aircraft.now level.volume c.args.rest.now.from level.lookahead) c.loop-l.l
      (omega (arith, c.loop-l-test.false, c.levels-l-end.ensures.value)) c.loop-l.invariant.open_below x.number x.level x.closes x.meets)),
)
