use Rattle.daa_exercise.specs.Inside.Drawing.{generator_of}
use Rattle.daa_exercise.proofs.MoveLemmas.{next_follows}
use Rattle.daa_exercise.proofs.sequence.Sequence.skip.Goals as goal

pub invariant_of-self : goal.invariant_of-self
invariant_of-self c = record {
  drawn = next_follows (generator_of c.args.self.now.seed) c.args.self.now.draws c.skip_moment.new.self c.args.self.now.time c.args.self.now.drawn
      c.skip_moment.ensures;
}
