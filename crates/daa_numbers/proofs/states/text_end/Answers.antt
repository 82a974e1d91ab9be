use Rattle.std.proofs.Common.{arith}
use Rattle.daa_numbers.proofs.TextLemmas.{text_more, text_ends, text_whole}
use Rattle.daa_numbers.proofs.states.text_end.Goals as goal

pub loop-end-preserved : goal.loop-end-preserved
loop-end-preserved c = record {
  within = omega arith;
  so_far = text_more c.args.bytes.now c.loop-end.end _ c.loop-end-test.true c.if-bytes-end-ne0.true c.loop-end.invariant.so_far;
}

pub returns-else-bytes-end-ne0-clause-text : goal.returns-else-bytes-end-ne0-clause-text
returns-else-bytes-end-ne0-clause-text c =
    text_ends c.args.bytes.now c.loop-end.end _ c.loop-end-test.true c.if-bytes-end-ne0.false c.loop-end.invariant.so_far

pub returns-after-loop-end-clause-text : goal.returns-after-loop-end-clause-text
returns-after-loop-end-clause-text c = text_whole c.args.bytes.now c.loop-end.end (omega arith) c.loop-end.invariant.so_far
