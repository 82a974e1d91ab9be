use Rattle.std.proofs.Common.{◌∙◌, ap, sym}
use Rattle.daa_exercise.specs.Inside.Drawing.{Outputs, generator_of}
use Rattle.daa_exercise.specs.Moments.{moment_of}
use Rattle.daa_exercise.proofs.DrawLemmas.{outputs_are}
use Rattle.daa_exercise.proofs.MoveLemmas.{next_follows, next_is}
use Rattle.daa_exercise.proofs.sequence.Sequence.draw.Goals as goal

pub invariant_of-self : goal.invariant_of-self
invariant_of-self c = record {
  drawn = next_follows (generator_of c.args.self.now.seed) c.args.self.now.draws c.draw_moment.new.self c.args.self.now.time c.args.self.now.drawn
      c.draw_moment.ensures.rest;
}

pub returns-clause-moment : goal.returns-clause-moment
returns-clause-moment c =
    next_is (generator_of c.args.self.now.seed) c.args.self.now.draws c.args.self.now.time c.draw_moment.new.picture c.args.self.now.drawn
    c.draw_moment.ensures.value ∙ ap (λ (output : Outputs). moment_of output c.args.self.now.time) (sym (outputs_are c.args.self.now.seed))
