use Rattle.std.proofs.Common.{◌∙◌, All, Bool, List, arith, refl, subst, sym}
use Rattle.daa_replay.specs.declared.lane.Lane.{Lane}
use Rattle.daa_replay.specs.Inside.Batch.{Fails, HasTexts, IsFilled, Shares}
use Rattle.daa_replay.specs.Inside.Checkpoint.{reading_at}
use Rattle.daa_replay.proofs.BatchLemmas.{fails-part, shares-join, shares-none}
use Rattle.daa_replay.proofs.ReportLemmas.{on_err}
use Rattle.daa_replay.proofs.batch.write_parts.Goals as goal

pub loop-reach-init : goal.loop-reach-init
loop-reach-init g c = record {
  filled = c.requires.filled;
  there = c.requires.there;
  forward = omega arith;
  shares = shares-none c.args.config.now c.args.piece.now (reading_at c.args.from) (g.K.Sink.taken c.args.sink.now);
  calm = refl;
}

pub loop-reach-preserved : goal.loop-reach-preserved
loop-reach-preserved g c =
    let settings = c.args.config.now in
    let piece = c.args.piece.now in
    let part = c.in-Some.part in
    let i = c.loop-reach.invariant in
    let filled : All (IsFilled settings piece) c.as_slice.result.now = subst (λ (l : List Lane). All (IsFilled settings piece) l) (sym c.as_slice.ensures.value) c.fill_from.ensures in
    let has : HasTexts settings piece c.loop-reach.reach.upto part.upto part.refused part.text.now = c.in-Some.ensures.texts settings piece filled in
    record {
      filled = c.fill_from.ensures;
      there = has.there;
      forward = omega (arith, i.forward, c.in-Some.ensures.further);
      shares = subst (λ (b : Bool). Shares settings piece (reading_at c.args.from) (reading_at part.upto) b (g.K.Sink.taken c.args.sink.now) (g.K.Sink.taken c.put.new.sink)) (sym c.either.ensures)
          (shares-join settings piece (reading_at c.args.from) (reading_at c.loop-reach.reach.upto) (reading_at part.upto) c.loop-reach.reach.refused part.refused _ _ _ i.shares
          (part.text.now, has.tells, c.in_ok-put.ensures.whole));
      calm = c.in_ok-put.ensures.cause.steady ∙ i.calm;
    }

pub returns-in_err-put-clause-err : goal.returns-in_err-put-clause-err
returns-in_err-put-clause-err g c =
    let settings = c.args.config.now in
    let piece = c.args.piece.now in
    let part = c.in-Some.part in
    let i = c.loop-reach.invariant in
    let filled : All (IsFilled settings piece) c.as_slice.result.now = subst (λ (l : List Lane). All (IsFilled settings piece) l) (sym c.as_slice.ensures.value) c.fill_from.ensures in
    let has : HasTexts settings piece c.loop-reach.reach.upto part.upto part.refused part.text.now = c.in-Some.ensures.texts settings piece filled in
    let fails : Fails settings piece (reading_at c.args.from) (g.K.Sink.taken c.args.sink.now) (g.K.Sink.taken c.put.new.sink) =
    fails-part settings piece (reading_at c.args.from) (reading_at c.loop-reach.reach.upto) c.loop-reach.reach.refused part.refused part.upto part.text.now _ _ _ i.shares has.tells has.there
    c.in_err-put.ensures.front in
    on_err _ _ fails
