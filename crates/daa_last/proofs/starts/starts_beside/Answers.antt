use Rattle.std.proofs.Common.{arith}
use Rattle.std.proofs.lemmas.Int.{ints}
use Rattle.daa_last.proofs.Starting.{below_more, below_all}
use Rattle.daa_last.proofs.starts.starts_beside.Goals as goal

pub loop-l-preserved : goal.loop-l-preserved
loop-l-preserved c = record {
  so_far = below_more c.args.config.now c.args.own.now c.args.aircraft.now c.args.most c.loop-l.l c.loop-l.starts c.starts_under-starts.result c.level.result.now
      c.level.ensures.value c.loop-l.invariant.from c.starts_under-starts.ensures c.loop-l.invariant.so_far;
  from = let f = c.loop-l.invariant.from in omega (arith, ints, f);
}

pub returns : goal.returns
returns c = below_all c.args.config.now c.args.own.now c.args.aircraft.now c.args.most c.loop-l.l c.loop-l.starts
    (omega (arith, c.loop-l-test.false, c.levels-l-end.ensures.value)) c.loop-l.invariant.so_far
