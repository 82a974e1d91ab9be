use Rattle.std.proofs.Common.{◌↔◌, ◌<◌, length, refl, ap, subst, arith}
use Rattle.std.specs.Prelude.{IsTrue}
use Rattle.std.proofs.lemmas.Int.{ints}
use Rattle.daa_config.specs.declared.level.Level.{Level}
use Rattle.daa_config.specs.Settings.{IsLevelAt}
use Rattle.daa_legs.specs.Meeting.{ViolatesOn}
use Rattle.daa_recovery.specs.OutlookState.{OutlookState}
use Rattle.daa_recovery.proofs.ClosingLevels.{levels_first, levels_more, levels_all}
use Rattle.daa_recovery.proofs.WalkedSides.{before_tested}
use Rattle.daa_recovery.proofs.outlook.Outlook.is_closed_by.Goals as goal
use Rattle.daa_recovery.proofs.outlook.Outlook.is_closed_by.Goals.{After-violates_before}

tested : (c : After-violates_before)
    → IsTrue c.violates_before.result
    ↔ ((c.args.k < c.level-level.result.now.lookahead)
    × ViolatesOn c.args.self.now.settings c.args.self.now.picture.own c.args.candidate c.args.aircraft.now c.level-level.result.now.volume c.args.k)
tested c = before_tested c.args.self.now c.args.candidate c.args.aircraft.now c.level-level.result.now c.args.k c.args.leg.now c.relative-seen.result c.violates_before.result c.requires.leg
    c.relative-seen.ensures.value c.violates_before.ensures

pub returns-then-violates_before : goal.returns-then-violates_before
returns-then-violates_before c =
    let level = c.level-level.result.now in
    let x = (tested c.before).0 c.if-violates_before.true in (
      (λ _. record {
        number = c.loop-l.l;
        level = level;
        closes = record { there = subst (λ (p : OutlookState). IsLevelAt p.settings c.loop-l.l level) c.self.view_is c.level-level.ensures.value; from = c.loop-l.invariant.begun };
        before = x.0;
        violates = x.1;
      }),
      (λ _. refl),
    )

pub loop-l-init : goal.loop-l-init
loop-l-init c =
    let p = c.args.self.now in
    let e = ap (λ (p : OutlookState). p.settings.numbers.resolve) c.self.view_is in
    record {
      none = levels_first p (λ (level : Level). (c.args.k < level.lookahead) × ViolatesOn p.settings p.picture.own c.args.candidate c.args.aircraft.now level.volume c.args.k) _
          (omega (arith, ints, e, c.resolve-l.ensures.value));
      begun = omega (arith, ints, e, c.resolve-l.ensures.value);
    }

pub loop-l-preserved : goal.loop-l-preserved
loop-l-preserved c =
    let p = c.args.self.now in
    let level = c.level-level.result.now in
    record {
      none = levels_more p (λ (level : Level). (c.args.k < level.lookahead) × ViolatesOn p.settings p.picture.own c.args.candidate c.args.aircraft.now level.volume c.args.k) c.loop-l.l level
          (subst (λ (p : OutlookState). IsLevelAt p.settings c.loop-l.l level) c.self.view_is c.level-level.ensures.value)
          (λ x. let t = (tested c.before).1 x in cc (t, c.if-violates_before.false))
          c.loop-l.invariant.none;
      begun = let f = c.loop-l.invariant.begun in omega (arith, ints, f);
    }

pub returns : goal.returns
returns c =
    let p = c.args.self.now in
    let same = ap (λ (p : OutlookState). length p.settings.levels) c.self.view_is in (
      (λ t. absurd (cc t)),
      (λ x. absurd
          (levels_all p (λ (level : Level). (c.args.k < level.lookahead) × ViolatesOn p.settings p.picture.own c.args.candidate c.args.aircraft.now level.volume c.args.k) c.loop-l.l
          (omega (arith, c.loop-l-test.false, c.levels-l-end.ensures.value, same)) c.loop-l.invariant.none x.number x.level x.closes (x.before, x.violates))),
    )
