use Rattle.std.proofs.Common.{subst, arith}
use Rattle.daa_config.specs.declared.config.Rates.{Rates}
use Rattle.daa_config.specs.Settings.{AreRatesInRange, rates_of}
use Rattle.daa_last.proofs.Openness.{said, open_of, closed_on_rest}
use Rattle.daa_last.proofs.Rests.{climbing_rest}
use Rattle.daa_last.proofs.search.closing_from.Goals as goal

pub closing_on-requires-clause-rest : goal.closing_on-requires-clause-rest
closing_on-requires-clause-rest c = climbing_rest c.args.picture.now.own (rates_of c.args.config.now) c.args.m c.args.candidate c.args.start.now c.requires.start
    (subst (λ (x : Rates). AreRatesInRange x) c.rates-rates.ensures.value c.rates-rates.ensures.in_range) c.requires.altitude.0 c.requires.altitude.1 c.requires.candidate

pub returns : goal.returns
returns c = said _ _ _ _ c.closing_on.result
    (λ free. open_of c.args.config.now c.args.picture.now c.args.m c.args.candidate c.args.m c.requires.held (λ k ge lt. absurd (omega (arith, ge, lt))) free)
    (λ x. closed_on_rest c.args.config.now c.args.picture.now c.args.m c.args.candidate c.args.m x)
    c.closing_on.ensures
