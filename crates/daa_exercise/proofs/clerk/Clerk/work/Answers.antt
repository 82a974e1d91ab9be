use Rattle.std.proofs.Common.{◌∙◌}
use Rattle.daa_exercise.proofs.JoinLemmas.{parts_pushed}
use Rattle.daa_exercise.proofs.clerk.Clerk.work.Goals as goal

pub loop-sequence-preserved : goal.loop-sequence-preserved
loop-sequence-preserved g c =
    let i = c.loop-sequence.invariant in record {
      parts = parts_pushed c.args.config.now c.args.seed c.loop-sequence.sequence.seed c.loop-sequence.self.parts.items c.push_reserved.new.self.items c.count-part.result
          c.push_reserved.ensures.items i.seed i.parts c.count-part.ensures.part;
      seed = c.count-part.ensures.seed ∙ i.seed;
    }
