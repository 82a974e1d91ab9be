use Rattle.std.proofs.Common.{ap, arith, length, length-drop, take, ◌++◌}
use Rattle.daa_judge.proofs.MatchingLemmas.{next_matched, whole_matched, compares_to}
use Rattle.daa_judge.proofs.matching.Matching.compare.Goals as goal

pub loop-done-preserved : goal.loop-done-preserved
loop-done-preserved g c =
    let took = c.in-Took.ensures.steps in
    record {
      within = omega (arith, took.within, ap length c.rest_from.ensures, length-drop c.loop-done.done c.args.text.now, c.loop-done.invariant.within);
      room = c.in-Took.ensures.room;
      never_falls = omega (arith, c.loop-done.invariant.never_falls, c.in-Took.ensures.never_falls);
      matched = λ most first before h. next_matched most first _ before c.args.text.now c.rest_from.result.now c.loop-done.done c.in-Took.count c.step.new.self c.rest_from.ensures
          (took.matched most first (before ++ take c.loop-done.done c.args.text.now) (c.loop-done.invariant.matched most first before h));
    }

pub returns-in-Stop-clause-compares : goal.returns-in-Stop-clause-compares
returns-in-Stop-clause-compares g c most first before h =
    let stop = c.in-Stop.ensures.steps in
    compares_to most first _ before c.args.text.now c.loop-done.done c.step.new.self c.in-Stop.found stop.0 c.rest_from.result.now c.rest_from.ensures
    (λ rest. stop.1 most first (before ++ take c.loop-done.done c.args.text.now) rest (c.loop-done.invariant.matched most first before h))

pub returns-clause-compares : goal.returns-clause-compares
returns-clause-compares g c most first before h =
    whole_matched most first _ before c.args.text.now c.loop-done.done c.loop-done.self (omega (arith, c.loop-done-test.false)) (c.loop-done.invariant.matched most first before h)
