use Rattle.std.proofs.Common.{◌∙◌, ◌+◌, subst, arith}
use Rattle.daa_config.specs.declared.config.Rates.{Rates}
use Rattle.daa_config.specs.Settings.{AreRatesInRange, rates_of}
use Rattle.daa_last.proofs.Sides.{side_leg-in_range, start-below, side_moved, side_moved-in_range}
use Rattle.daa_last.proofs.side.moved_leg.Goals as goal

pub moved-requires-clause-place : goal.moved-requires-clause-place
moved-requires-clause-place c =
    let r = subst (λ (x : Rates). AreRatesInRange x) c.rates-rates.ensures.value c.rates-rates.ensures.in_range in
    (side_leg-in_range c.args.own.now (rates_of c.args.config.now) c.args.horizon c.args.side.now c.requires.side c.requires.own r c.requires.horizon c.args.j c.leg-leg.result.now
    (omega (arith, c.requires.j)) c.leg-leg.ensures).place

pub moved-requires-clause-start : goal.moved-requires-clause-start
moved-requires-clause-start c =
    let r = subst (λ (x : Rates). AreRatesInRange x) c.rates-rates.ensures.value c.rates-rates.ensures.in_range in
    start-below c.args.own.now (rates_of c.args.config.now) c.args.horizon c.args.side.now c.requires.side c.requires.own r c.requires.horizon c.args.m c.args.start.now
    (omega (arith, c.requires.j, c.requires.horizon)) c.requires.start

pub moved-requires-clause-here : goal.moved-requires-clause-here
moved-requires-clause-here c =
    let r = subst (λ (x : Rates). AreRatesInRange x) c.rates-rates.ensures.value c.rates-rates.ensures.in_range in
    (side_leg-in_range c.args.own.now (rates_of c.args.config.now) c.args.horizon c.args.side.now c.requires.side c.requires.own r c.requires.horizon 0 c.leg-here.result.now
    (omega (arith, c.requires.j)) c.leg-here.ensures).place

pub returns-clause-value : goal.returns-clause-value
returns-clause-value c =
    let r = subst (λ (x : Rates). AreRatesInRange x) c.rates-rates.ensures.value c.rates-rates.ensures.in_range in
    let e = c.moved.ensures in
    (λ i. record { place = e i; velocity = c.leg-leg.result.now.velocity })
    ∙ side_moved c.args.own.now (rates_of c.args.config.now) c.args.horizon c.args.side.now c.requires.side c.requires.own r c.requires.horizon c.args.m c.args.j
    c.leg-leg.result.now c.leg-here.result.now
    c.args.start.now c.requires.alone c.requires.j c.leg-leg.ensures c.leg-here.ensures c.requires.start

pub returns-clause-in_range : goal.returns-clause-in_range
returns-clause-in_range c =
    let r = subst (λ (x : Rates). AreRatesInRange x) c.rates-rates.ensures.value c.rates-rates.ensures.in_range in
    let e = c.moved.ensures in
    side_moved-in_range c.args.own.now (rates_of c.args.config.now) c.args.horizon c.args.side.now c.requires.side c.requires.own r c.requires.horizon c.args.m (c.args.m + c.args.j)
    _ (omega (arith, c.requires.j, c.requires.horizon))
    ((λ i. record { place = e i; velocity = c.leg-leg.result.now.velocity })
    ∙ side_moved c.args.own.now (rates_of c.args.config.now) c.args.horizon c.args.side.now c.requires.side c.requires.own r c.requires.horizon c.args.m c.args.j
    c.leg-leg.result.now c.leg-here.result.now
    c.args.start.now c.requires.alone c.requires.j c.leg-leg.ensures c.leg-here.ensures c.requires.start)
