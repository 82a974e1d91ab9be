use Rattle.std.proofs.Common.{◌∙◌, false, arith, refl, subst, sym}
use Rattle.daa_replay.specs.Inside.Batch.{AddsTexts}
use Rattle.daa_replay.specs.Inside.Checkpoint.{Reading, reading, reading_at}
use Rattle.daa_replay.proofs.BatchLemmas.{adds-event, adds-none, adds-pass}
use Rattle.daa_replay.proofs.CheckpointLemmas.{lines-stand}
use Rattle.daa_replay.proofs.lane.Lane.add_moment.Goals as goal

pub loop-done-init : goal.loop-done-init
loop-done-init g c =
    let settings = c.args.config.now in
    let piece = c.args.piece.now in
    let from = c.args.from in
    let old = c.args.self.now.sheet.text in
    record {
      within = c.requires.there.within;
      forward = omega arith;
      lines = lines-stand piece from.done c.args.lines.now c.args.moments.now from c.requires.stands c.requires.there;
      added = subst (λ (r : Reading). AddsTexts settings piece (reading_at from) r false old old) (sym c.requires.stands) (adds-none settings piece (reading_at from) old);
      parts = refl;
    }

pub loop-done-preserved : goal.loop-done-preserved
loop-done-preserved g c =
    let i = c.loop-done.invariant in
    record {
      within = c.next_of_lines.ensures.within;
      forward = omega (arith, i.forward, c.next_of_lines.ensures.further, c.loop-done-test.true);
      lines = c.next_of_lines.ensures.lines;
      added = adds-pass c.args.config.now c.args.piece.now (reading_at c.args.from) (reading c.loop-done.done c.loop-done.lines c.loop-done.moments)
          (reading c.next_of_lines.new.done c.next_of_lines.new.lines c.next_of_lines.new.moments) _ _ _ i.added c.in_default.ensures.kept;
      parts = i.parts;
    }

pub loop-done-preserved-in_default-place_behind : goal.loop-done-preserved-in_default-place_behind
loop-done-preserved-in_default-place_behind g c =
    let i = c.loop-done.invariant in
    record {
      within = c.next_of_lines.ensures.within;
      forward = omega (arith, i.forward, c.next_of_lines.ensures.further, c.loop-done-test.true);
      lines = c.next_of_lines.ensures.lines;
      added = adds-event c.args.config.now c.args.piece.now (reading_at c.args.from) (reading c.loop-done.done c.loop-done.lines c.loop-done.moments)
          (reading c.next_of_lines.new.done c.next_of_lines.new.lines c.next_of_lines.new.moments) c.loop-done.refused c.any_refusal-refused.result c.in-Some.event
          c.args.self.now.sheet.text c.loop-done.self.sheet.text c.add.new.self.sheet.text i.added c.in-Some.ensures.kept (c.if-not-add.ensures.added refl) c.any_refusal-refused.ensures;
      parts = c.add.ensures.parts ∙ i.parts;
    }

pub returns-in-Some-place_behind-clause-added : goal.returns-in-Some-place_behind-clause-added
returns-in-Some-place_behind-clause-added g c =
    let i = c.loop-done.invariant in
    subst (λ (r : Reading). AddsTexts c.args.config.now c.args.piece.now (reading_at c.args.from) r c.any_refusal-refused.result c.args.self.now.sheet.text c.add.new.self.sheet.text)
    c.in-Some-place_behind.ensures.stands
    (adds-event c.args.config.now c.args.piece.now (reading_at c.args.from) (reading c.loop-done.done c.loop-done.lines c.loop-done.moments)
    (reading c.next_of_lines.new.done c.next_of_lines.new.lines c.next_of_lines.new.moments) c.loop-done.refused c.any_refusal-refused.result c.in-Some.event
    c.args.self.now.sheet.text c.loop-done.self.sheet.text c.add.new.self.sheet.text i.added c.in-Some.ensures.kept (c.if-not-add.ensures.added refl) c.any_refusal-refused.ensures)
