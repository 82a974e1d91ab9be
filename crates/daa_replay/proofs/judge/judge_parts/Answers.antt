use Rattle.std.proofs.Common.{All, List, arith, subst, sym}
use Rattle.daa_ahead.specs.Bytes.{stream_state}
use Rattle.daa_replay.specs.declared.lane.Lane.{Lane}
use Rattle.daa_replay.specs.Inside.Batch.{HasTexts, IsFilled}
use Rattle.daa_replay.specs.Inside.Checkpoint.{reading_at}
use Rattle.daa_replay.proofs.JudgeLemmas.{between-join, between-none, between-part, stops-later}
use Rattle.daa_replay.proofs.CheckpointLemmas.{lines-there}
use Rattle.daa_replay.proofs.judge.judge_parts.Goals as goal

pub loop-upto-init : goal.loop-upto-init
loop-upto-init g c = record {
  filled = c.requires.filled;
  there = c.requires.there;
  forward = omega arith;
  room = c.requires.room;
  never_falls = omega arith;
  matched = between-none c.args.config.now c.args.piece.now (reading_at c.args.from) c.args.matching.now
      (stream_state (g.S.Source.left c.args.source.now) (g.S.Source.faults c.args.source.now));
}

pub loop-upto-preserved : goal.loop-upto-preserved
loop-upto-preserved g c =
    let settings = c.args.config.now in
    let piece = c.args.piece.now in
    let part = c.in-Some.part in
    let here = c.loop-upto.upto in
    let i = c.loop-upto.invariant in
    let filled : All (IsFilled settings piece) c.as_slice.result.now = subst (λ (l : List Lane). All (IsFilled settings piece) l) (sym c.as_slice.ensures.value) c.fill_from.ensures in
    let has : HasTexts settings piece here part.upto part.refused part.text.now = c.in-Some.ensures.texts settings piece filled in
    record {
      filled = c.fill_from.ensures;
      there = has.there;
      forward = omega (arith, i.forward, c.in-Some.ensures.further);
      room = c.judge_text.ensures.room;
      never_falls = omega (arith, i.never_falls, c.judge_text.ensures.never_falls);
      matched = between-join settings piece (reading_at c.args.from) (reading_at here) (reading_at part.upto) _ _ _ _ _ _ _ i.matched
          (between-part settings piece (reading_at here) (reading_at part.upto) part.refused part.text.now _ _ _ _ _ has.tells c.in-Ok.ensures.compares);
    }

pub returns-in-Err-clause-err : goal.returns-in-Err-clause-err
returns-in-Err-clause-err g c =
    let settings = c.args.config.now in
    let piece = c.args.piece.now in
    let part = c.in-Some.part in
    let here = c.loop-upto.upto in
    let i = c.loop-upto.invariant in
    let filled : All (IsFilled settings piece) c.as_slice.result.now = subst (λ (l : List Lane). All (IsFilled settings piece) l) (sym c.as_slice.ensures.value) c.fill_from.ensures in
    let has : HasTexts settings piece here part.upto part.refused part.text.now = c.in-Some.ensures.texts settings piece filled in
    stops-later settings piece (reading_at c.args.from) (reading_at here) _ _ _ _ _ _ _ i.matched (record {
      stops = c.in-Err.ensures.stops;
      upto = reading_at part.upto;
      within = has.there.within;
      can = lines-there piece part.upto has.there;
      compared = between-part settings piece (reading_at here) (reading_at part.upto) part.refused part.text.now _ _ _ _ _ has.tells c.in-Err.ensures.compares;
    })
