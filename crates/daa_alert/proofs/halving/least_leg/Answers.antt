use Rattle.std.proofs.Common.{arith}
use Rattle.daa_alert.proofs.HalvingLemmas.{halved_start, halved_least}
use Rattle.daa_alert.proofs.halving.least_leg.Goals as goal

pub loop-high-init : goal.loop-high-init
loop-high-init c = halved_start c.args.config.now c.args.own.now c.args.aircraft.now c.args.volume.now c.args.m c.requires.there

pub loop-high-preserved : goal.loop-high-preserved
loop-high-preserved c = record {
  not_within = λ m. let t = c.meets_within.ensures.1 m in cc (t, c.if-meets_within.false);
  within = c.loop-high.invariant.within;
  order = omega (arith, c.loop-high-test.true, c.loop-high.invariant.order);
  upto = c.loop-high.invariant.upto;
}

pub returns-clause-least : goal.returns-clause-least
returns-clause-least c = halved_least c.args.config.now c.args.own.now c.args.aircraft.now c.args.volume.now
    c.loop-high.low c.loop-high.high c.args.m c.loop-high.invariant (omega (arith, c.loop-high-test.false))
