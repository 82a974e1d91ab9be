use Rattle.std.proofs.Common.{◌∙◌, Bool, refl, subst, sym}
use Rattle.daa_report.specs.Lines.{Text}
use Rattle.daa_replay.specs.Inside.Batch.{AddsTexts}
use Rattle.daa_replay.specs.Inside.Checkpoint.{reading_at}
use Rattle.daa_replay.proofs.BatchLemmas.{adds-join, adds-none}
use Rattle.daa_replay.proofs.CheckpointLemmas.{same-reading}
use Rattle.daa_replay.proofs.lane.Lane.add_moments.Goals as goal

pub loop-reach-init : goal.loop-reach-init
loop-reach-init g c = record {
  there = c.requires;
  stands = same-reading c.args.from.done _ _ _ _ c.lines-lines.ensures c.moments-moments.ensures;
  added = adds-none c.args.config.now c.args.piece.now (reading_at c.args.from) c.args.self.now.sheet.text;
  parts = refl;
}

pub loop-reach-preserved : goal.loop-reach-preserved
loop-reach-preserved g c =
    let i = c.loop-reach.invariant in
    let next = c.in-Some.next in
    record {
      there = c.in-Some.ensures.there;
      stands = c.in-Some.ensures.stands;
      added = subst (λ (b : Bool). AddsTexts c.args.config.now c.args.piece.now (reading_at c.args.from) (reading_at next.upto) b c.args.self.now.sheet.text c.add_moment.new.self.sheet.text)
          (sym c.either.ensures)
          (adds-join c.args.config.now c.args.piece.now (reading_at c.args.from) (reading_at c.loop-reach.reach.upto) (reading_at next.upto) c.loop-reach.reach.refused next.refused
          c.args.self.now.sheet.text c.loop-reach.self.sheet.text c.add_moment.new.self.sheet.text i.added c.in-Some.ensures.added);
      parts = c.add_moment.ensures.parts ∙ i.parts;
    }

pub returns-in-None-clause-added : goal.returns-in-None-clause-added
returns-in-None-clause-added g c =
    let i = c.loop-reach.invariant in
    subst (λ (t : Text). AddsTexts c.args.config.now c.args.piece.now (reading_at c.args.from) (reading_at c.loop-reach.reach.upto) c.loop-reach.reach.refused c.args.self.now.sheet.text t)
    (sym c.in-None.ensures.kept) i.added
