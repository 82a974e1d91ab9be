use Rattle.std.proofs.Common.{pos, ◌+◌, ◌≤ℤ◌, arith}
use Rattle.std.proofs.lemmas.Int.{ints}
use Rattle.daa_recovery.proofs.Horizons.{horizon_more, horizon_all}
use Rattle.daa_recovery.proofs.outlook.horizon_of.Goals as goal

pub loop-l-preserved : goal.loop-l-preserved
loop-l-preserved c =
    let f = c.loop-l.invariant.from in
    let from : c.args.config.now.numbers.resolve ≤ℤ pos (c.loop-l.l + 1) = omega (arith, ints, f) in
    record {
      so_far = horizon_more c.args.config.now c.loop-l.l c.loop-l.horizon c.max-horizon.result
          c.level-in-loop-l.result.now from c.level-in-loop-l.ensures.value c.max-horizon.ensures
          c.loop-l.invariant.so_far;
      from = from;
    }

pub returns-clause-value : goal.returns-clause-value
returns-clause-value c = horizon_all c.args.config.now c.loop-l.l c.loop-l.horizon (omega (arith, c.loop-l-test.false, c.levels-l-end.ensures.value)) c.loop-l.invariant.so_far
