use Rattle.std.proofs.Common.{◌↔◌, ◌+◌, ◌<◌, ◌≤◌, ℕ, refl, subst, arith}
use Rattle.std.specs.Prelude.{IsTrue}
use Rattle.daa_config.specs.declared.config.Rates.{Rates}
use Rattle.daa_config.specs.Settings.{AreRatesInRange, rates_of}
use Rattle.daa_last.specs.Inside.Search.{MeetsLate}
use Rattle.daa_last.proofs.Rests.{by_rates, rest_run, rest_end, rest_run-in_range, rest_height}
use Rattle.daa_last.proofs.Walking.{run_tested, walked_first, walked_next, walked_met, walked_none}
use Rattle.daa_last.proofs.rest.meets_late.Goals as goal
use Rattle.daa_last.proofs.rest.meets_late.Goals.{After-violates_on}

short : (k upto : ℕ) → k < upto → upto ≤ 180 → k ≤ 180
short k upto l h = omega (arith, l, h)

tested : (c : After-violates_on) → IsTrue c.violates_on.result
    ↔ MeetsLate c.args.config.now c.args.own.now c.args.rest.now.candidate c.args.m c.args.aircraft.now c.args.volume.now c.loop-k.k (c.loop-k.k + c.next_run-run.result.secs)
tested c = run_tested c.args.config.now c.args.own.now c.args.rest.now.candidate c.args.m c.args.aircraft.now c.args.volume.now c.loop-k.k c.next_run-run.result
    (rest_run c.args.own.now (rates_of c.args.config.now) c.args.m c.args.rest.now c.requires.rest c.loop-k.k c.loop-k.invariant.from c.loop-k.place c.loop-k.invariant.at
    c.next_run-run.result c.next_run-run.ensures.place
    (by_rates c.rates-rates.result (rates_of c.args.config.now) c.rates-rates.ensures.value c.args.rest.now c.loop-k.place c.loop-k.k c.next_run-run.result c.next_run-run.ensures.keeps))
    c.next_run-run.ensures.some c.relative_run.result c.violates_on.result c.relative_run.ensures.value c.violates_on.ensures

pub loop-k-init : goal.loop-k-init
loop-k-init c = walked_first c.args.config.now c.args.own.now c.args.rest.now.candidate c.args.m c.args.aircraft.now c.args.volume.now c.args.rest.now.from c.args.rest.now.place c.requires.rest.at

pub next_run-run-requires-clause-height : goal.next_run-run-requires-clause-height
next_run-run-requires-clause-height c = rest_height c.args.own.now (rates_of c.args.config.now) c.args.m c.args.rest.now c.requires.rest
    c.loop-k.k c.loop-k.invariant.from c.loop-k.place c.loop-k.invariant.at
    c.requires.own (subst (λ (x : Rates). AreRatesInRange x) c.rates-rates.ensures.value c.rates-rates.ensures.in_range) (short _ _ c.loop-k-test.true c.requires.upto)

pub relative_run-requires-clause-run : goal.relative_run-requires-clause-run
relative_run-requires-clause-run c = rest_run-in_range c.args.own.now (rates_of c.args.config.now) c.args.m c.args.rest.now c.requires.rest
    c.loop-k.k c.loop-k.invariant.from c.loop-k.place c.loop-k.invariant.at
    c.next_run-run.result c.next_run-run.ensures.place
    (by_rates c.rates-rates.result (rates_of c.args.config.now) c.rates-rates.ensures.value c.args.rest.now c.loop-k.place c.loop-k.k c.next_run-run.result c.next_run-run.ensures.keeps)
    c.requires.own (subst (λ (x : Rates). AreRatesInRange x) c.rates-rates.ensures.value c.rates-rates.ensures.in_range) (short _ _ c.loop-k-test.true c.requires.upto) c.next_run-run.ensures.some

pub end_of_run-place-requires-clause-place : goal.end_of_run-place-requires-clause-place
end_of_run-place-requires-clause-place c = (rest_run-in_range c.args.own.now (rates_of c.args.config.now) c.args.m c.args.rest.now c.requires.rest
    c.loop-k.k c.loop-k.invariant.from c.loop-k.place c.loop-k.invariant.at
    c.next_run-run.result c.next_run-run.ensures.place
    (by_rates c.rates-rates.result (rates_of c.args.config.now) c.rates-rates.ensures.value c.args.rest.now c.loop-k.place c.loop-k.k c.next_run-run.result c.next_run-run.ensures.keeps)
    c.requires.own (subst (λ (x : Rates). AreRatesInRange x) c.rates-rates.ensures.value c.rates-rates.ensures.in_range) (short _ _ c.loop-k-test.true c.requires.upto)
    c.next_run-run.ensures.some).leg.place

pub end_of_run-place-requires-clause-velocity : goal.end_of_run-place-requires-clause-velocity
end_of_run-place-requires-clause-velocity c = (rest_run-in_range c.args.own.now (rates_of c.args.config.now) c.args.m c.args.rest.now c.requires.rest
    c.loop-k.k c.loop-k.invariant.from c.loop-k.place c.loop-k.invariant.at
    c.next_run-run.result c.next_run-run.ensures.place
    (by_rates c.rates-rates.result (rates_of c.args.config.now) c.rates-rates.ensures.value c.args.rest.now c.loop-k.place c.loop-k.k c.next_run-run.result c.next_run-run.ensures.keeps)
    c.requires.own (subst (λ (x : Rates). AreRatesInRange x) c.rates-rates.ensures.value c.rates-rates.ensures.in_range) (short _ _ c.loop-k-test.true c.requires.upto)
    c.next_run-run.ensures.some).leg.velocity

pub returns-then-violates_on : goal.returns-then-violates_on
returns-then-violates_on c = (
  (λ _. walked_met c.args.config.now c.args.own.now c.args.rest.now.candidate c.args.m c.args.aircraft.now c.args.volume.now c.args.rest.now.from c.loop-k.place c.loop-k.k c.args.upto _
      c.loop-k.invariant (omega (arith, c.next_run-run.ensures.within, c.loop-k-test.true)) ((tested c.before).0 c.if-violates_on.true)),
  (λ _. refl),
)

pub loop-k-preserved : goal.loop-k-preserved
loop-k-preserved c = walked_next c.args.config.now c.args.own.now c.args.rest.now.candidate c.args.m c.args.aircraft.now c.args.volume.now c.args.rest.now.from c.loop-k.place
    c.end_of_run-place.result c.loop-k.k c.next_run-run.result.secs c.loop-k.invariant
    (rest_end c.args.own.now (rates_of c.args.config.now) c.args.m c.args.rest.now c.requires.rest c.loop-k.k c.loop-k.invariant.from c.loop-k.place c.loop-k.invariant.at
    c.next_run-run.result c.next_run-run.ensures.place
    (by_rates c.rates-rates.result (rates_of c.args.config.now) c.rates-rates.ensures.value c.args.rest.now c.loop-k.place c.loop-k.k c.next_run-run.result c.next_run-run.ensures.keeps)
    c.end_of_run-place.result c.end_of_run-place.ensures)
    (λ x. let t = (tested c.before.before.before).1 x in cc (t, c.if-violates_on.false))

pub returns : goal.returns
returns c = (
  (λ t. absurd (cc t)),
  (λ x. absurd
      (walked_none c.args.config.now c.args.own.now c.args.rest.now.candidate c.args.m c.args.aircraft.now c.args.volume.now c.args.rest.now.from
      c.loop-k.place c.args.upto c.loop-k.k c.loop-k-test.false c.loop-k.invariant x)),
)
