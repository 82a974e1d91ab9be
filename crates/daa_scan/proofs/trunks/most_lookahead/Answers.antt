use Rattle.std.proofs.Common.{arith}
use Rattle.daa_scan.proofs.Sides.{ahead_more}
use Rattle.daa_scan.proofs.trunks.most_lookahead.Goals as goal

pub loop-l-preserved : goal.loop-l-preserved
loop-l-preserved c = record {
  few = omega (arith, c.max-most.ensures, c.level.ensures.in_range.lookahead_most, c.loop-l.invariant.few);
  all = ahead_more c.args.config.now c.loop-l.l c.loop-l.most c.max-most.result c.level.result.now c.loop-l.invariant.all c.level.ensures.value
      (omega (arith, c.max-most.ensures)) (omega (arith, c.max-most.ensures));
}
