use Rattle.std.proofs.Common.{◌↔◌, subst, below_more}
use Rattle.std.specs.Prelude.{IsTrue}
use Rattle.daa_config.specs.declared.config.Rates.{Rates}
use Rattle.daa_config.specs.declared.candidate.Candidate.TheVariants.{Hold}
use Rattle.daa_config.specs.Settings.{AreRatesInRange, rates_of}
use Rattle.daa_legs.specs.Meeting.{ViolatesOn}
use Rattle.daa_meet.proofs.Keeping.{kept_is, kept-in_range, leg_tested}
use Rattle.daa_last.proofs.starts.first_held.Goals as goal
use Rattle.daa_last.proofs.starts.first_held.Goals.{After-violates_on}

pub relative-requires-clause-leg : goal.relative-requires-clause-leg
relative-requires-clause-leg c = kept-in_range c.args.own.now (rates_of c.args.config.now) Hold c.args.upto c.loop-k.k
    c.args.held.now c.leg.result.now c.requires.held c.loop-k-test.true c.requires.upto c.leg.ensures
    c.requires.own (subst (λ (r : Rates). AreRatesInRange r) c.rates-rates.ensures.value c.rates-rates.ensures.in_range) tt

tested : (c : After-violates_on) → IsTrue c.violates_on.result ↔ ViolatesOn c.args.config.now c.args.own.now Hold c.args.aircraft.now c.args.volume.now c.loop-k.k
tested c = leg_tested c.args.config.now c.args.own.now Hold c.args.aircraft.now c.args.volume.now c.loop-k.k c.leg.result.now c.relative.result c.violates_on.result
    (kept_is c.args.own.now (rates_of c.args.config.now) Hold c.args.upto c.loop-k.k c.args.held.now c.leg.result.now
    c.requires.held c.loop-k-test.true c.leg.ensures)
    c.relative.ensures.value c.violates_on.ensures

pub returns-then-violates_on : goal.returns-then-violates_on
returns-then-violates_on c = record {
  before = c.loop-k-test.true;
  violates = (tested c.before).0 c.if-violates_on.true;
  none_before = c.loop-k.invariant;
}

pub loop-k-preserved : goal.loop-k-preserved
loop-k-preserved c = below_more _ _ c.loop-k.invariant (λ v. let t = (tested c.before).1 v in cc (t, c.if-violates_on.false))
