use Rattle.std.proofs.Common.{◌↔◌, ◌≤◌, ◌+◌, refl, arith}
use Rattle.std.specs.Prelude.{IsTrue}
use Rattle.daa_legs.specs.Runs.{MeetsBetween}
use Rattle.daa_meet.proofs.Walking.{run_is, run_walked, met, walked_none}
use Rattle.daa_meet.proofs.walk.meets_between.Goals as goal
use Rattle.daa_meet.proofs.walk.meets_between.Goals.{After-violates_on}

hit : (c : After-violates_on)
    → IsTrue c.violates_on.result
    ↔ MeetsBetween c.args.config.now c.args.own.now c.args.candidate c.args.aircraft.now c.args.volume.now c.loop-k.k
    (c.loop-k.k + c.next_run-run.result.secs)
hit c = run_is c.args.config.now c.args.own.now c.args.candidate c.args.aircraft.now c.args.volume.now c.loop-k.flight
    c.args.first c.loop-k.k c.next_run-run.result c.relative_run.result c.violates_on.result c.loop-k.invariant.walked
    c.next_run-run.ensures.run
    (c.relative_run.ensures.seconds c.args.config.now c.args.own.now c.args.candidate c.args.volume.now) c.violates_on.ensures

inside : (c : After-violates_on) → c.loop-k.k + c.next_run-run.result.secs ≤ c.args.upto
inside c = omega (arith, c.next_run-run.ensures.longest.within, c.loop-k.invariant.upto)

pub returns-then-upto-first : goal.returns-then-upto-first
returns-then-upto-first c = ((λ t. absurd (cc t)), (λ m. absurd (omega (arith, c.if-upto-first.true, m.not_before, m.before))))

pub loop-k-init : goal.loop-k-init
loop-k-init c = record {
  walked = record { at = c.flown_to-flight.ensures; none = λ j from h. absurd (omega (arith, from, h)) };
  from = omega arith;
  upto = omega arith;
}

pub returns-then-violates_on : goal.returns-then-violates_on
returns-then-violates_on c = (
  (λ _. met c.args.config.now c.args.own.now c.args.candidate c.args.aircraft.now c.args.volume.now c.args.first
      c.loop-k.k c.args.upto (c.loop-k.k + c.next_run-run.result.secs) c.loop-k.invariant.from (inside c.before)
      ((hit c.before).0 c.if-violates_on.true)),
  (λ _. refl),
)

pub loop-k-preserved : goal.loop-k-preserved
loop-k-preserved c = record {
  walked = run_walked c.args.config.now c.args.own.now c.args.candidate c.args.aircraft.now c.args.volume.now
      c.loop-k.flight c.next_run-run.new.self c.args.first c.loop-k.k c.next_run-run.result.secs
      c.loop-k.invariant.walked c.next_run-run.ensures.taken
      (λ m. let t = (hit c.before).1 m in cc (t, c.if-violates_on.false));
  from = omega (arith, c.loop-k.invariant.from);
  upto = inside c.before;
}

pub returns : goal.returns
returns c = (
  (λ t. absurd (cc t)),
  (λ m. absurd
      (walked_none c.args.config.now c.args.own.now c.args.candidate c.args.aircraft.now c.args.volume.now
      c.loop-k.flight c.args.first c.args.upto c.loop-k.k c.loop-k-test.false c.loop-k.invariant.walked m)),
)
