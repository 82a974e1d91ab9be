use Rattle.std.proofs.Common.{arith, length, ap, subst}
use Rattle.std.proofs.lemmas.Int.{ints}
use Rattle.daa_config.specs.Settings.{IsLevelAt}
use Rattle.daa_recovery.specs.OutlookState.{OutlookState}
use Rattle.daa_recovery.specs.Inside.OutlookState.{IsOutlook}
use Rattle.daa_recovery.proofs.Raising.{raised_first, raised_more, raised_all}
use Rattle.daa_recovery.proofs.outlook.Outlook.raised_beside.Goals as goal

pub loop-l-init : goal.loop-l-init
loop-l-init c =
    let e = ap (λ (p : OutlookState). p.settings.numbers.resolve) c.self.view_is in
    let b = c.resolve-l.ensures.value in
    raised_first c.args.self.now c.args.candidate c.args.aircraft.now c.args.rest.now.from c.args.need _ (omega (arith, ints, e, b)) (omega (arith, ints, e, b))

pub raised-raised-requires-clause-upto : goal.raised-raised-requires-clause-upto
raised-raised-requires-clause-upto c =
    let level = c.level-level.result.now in
    let p = subst (λ (p : OutlookState). IsOutlook p) c.self.view_is c.self.invariant in
    p.horizon.most c.loop-l.l level (record {
      there = subst (λ (p : OutlookState). IsLevelAt p.settings c.loop-l.l level) c.self.view_is c.level-level.ensures.value;
      from = c.loop-l.invariant.begun;
    })

pub loop-l-preserved : goal.loop-l-preserved
loop-l-preserved c =
    let level = c.level-level.result.now in
    let f = c.loop-l.invariant.begun in
    raised_more c.args.self.now c.args.candidate c.args.aircraft.now c.args.rest.now.from c.args.need c.loop-l.l c.loop-l.raised c.raised-raised.result level
    (subst (λ (p : OutlookState). IsLevelAt p.settings c.loop-l.l level) c.self.view_is c.level-level.ensures.value)
    (omega (arith, ints, f)) c.raised-raised.ensures c.loop-l.invariant

pub returns : goal.returns
returns c =
    let same = ap (λ (p : OutlookState). length p.settings.levels) c.self.view_is in
    raised_all c.args.self.now c.args.candidate c.args.aircraft.now c.args.rest.now.from c.args.need c.loop-l.l c.loop-l.raised
    (omega (arith, c.loop-l-test.false, c.levels-l-end.ensures.value, same)) c.loop-l.invariant
