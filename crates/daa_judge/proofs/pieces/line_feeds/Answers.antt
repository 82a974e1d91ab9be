use Rattle.std.proofs.Common.{◌∷◌, [], ap, arith, take, get_or}
use Rattle.std.proofs.lemmas.List.{take_more}
use Rattle.daa_judge.specs.Matching.{line_feeds}
use Rattle.daa_judge.proofs.JudgedLemmas.{feeds-append}
use Rattle.daa_judge.proofs.pieces.line_feeds.Goals as goal

pub loop-byte-preserved : goal.loop-byte-preserved
loop-byte-preserved c =
    let bytes = c.args.bytes.now in
    let i = c.loop-byte.byte-index in
    record {
      few = omega (arith, c.loop-byte.invariant.few, c.line_feed-count.ensures.few);
      counted = omega (
        arith,
        c.loop-byte.invariant.counted,
        c.line_feed-count.ensures.feeds,
        ap line_feeds (take_more bytes i 0 c.loop-byte-test.true),
        feeds-append (take i bytes) (get_or bytes i 0 ∷ []),
      );
    }
