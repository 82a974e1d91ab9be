use Rattle.std.proofs.Common.{◌↔◌, ◌<◌, refl, arith}
use Rattle.std.specs.Prelude.{IsTrue}
use Rattle.std.proofs.lemmas.Int.{ints}
use Rattle.daa_config.specs.declared.level.Level.{Level}
use Rattle.daa_last.specs.Delayed.{ViolatesDelayed}
use Rattle.daa_last.proofs.Searching.{no_level_first, no_level_more, no_level_all}
use Rattle.daa_last.proofs.Walking.{before_tested}
use Rattle.daa_last.proofs.side.is_struck_by.Goals as goal
use Rattle.daa_last.proofs.side.is_struck_by.Goals.{After-violates_before}

tested : (c : After-violates_before)
    → IsTrue c.violates_before.result
    ↔ ((c.args.k < c.level-level.result.now.lookahead)
    × ViolatesDelayed c.args.config.now c.args.own.now c.args.candidate c.args.m c.args.aircraft.now c.level-level.result.now.volume c.args.k)
tested c = before_tested c.args.config.now c.args.own.now c.args.candidate c.args.m c.args.aircraft.now c.level-level.result.now c.args.k c.args.leg.now c.relative-seen.result c.violates_before.result
    c.requires.leg c.relative-seen.ensures.value c.violates_before.ensures

pub loop-l-init : goal.loop-l-init
loop-l-init c = record {
  none = no_level_first c.args.config.now
      (λ (level : Level). (c.args.k < level.lookahead) × ViolatesDelayed c.args.config.now c.args.own.now c.args.candidate c.args.m c.args.aircraft.now level.volume c.args.k) _
      c.resolve-l.ensures.value;
  from = let e = c.resolve-l.ensures.value in omega (arith, ints, e);
}

pub returns-then-violates_before : goal.returns-then-violates_before
returns-then-violates_before c =
    let x = (tested c.before).0 c.if-violates_before.true in (
      (λ _. record {
        number = c.loop-l.l;
        level = c.level-level.result.now;
        closes = record { there = c.level-level.ensures.value; from = c.loop-l.invariant.from };
        before = x.0;
        violates = x.1;
      }),
      (λ _. refl),
    )

pub loop-l-preserved : goal.loop-l-preserved
loop-l-preserved c = record {
  none = no_level_more c.args.config.now
      (λ (level : Level). (c.args.k < level.lookahead) × ViolatesDelayed c.args.config.now c.args.own.now c.args.candidate c.args.m c.args.aircraft.now level.volume c.args.k)
      c.loop-l.l c.level-level.result.now c.level-level.ensures.value
      (λ x. let t = (tested c.before).1 x in cc (t, c.if-violates_before.false)) c.loop-l.invariant.none;
  from = let f = c.loop-l.invariant.from in omega (arith, ints, f);
}

pub returns : goal.returns
returns c = (
  (λ t. absurd (cc t)),
  (λ x. absurd
      (no_level_all c.args.config.now
      (λ (level : Level). (c.args.k < level.lookahead) × ViolatesDelayed c.args.config.now c.args.own.now c.args.candidate c.args.m c.args.aircraft.now level.volume c.args.k) c.loop-l.l
      (omega (arith, c.loop-l-test.false, c.levels-l-end.ensures.value)) c.loop-l.invariant.none x.number x.level x.closes (x.before, x.violates))),
)
