use Rattle.std.proofs.Common.{◌∙◌, ℕ, ap}
use Rattle.daa_exercise.specs.Inside.Drawing.{after}
use Rattle.daa_exercise.proofs.draws.Draws.skip.Goals as goal

pub returns : goal.returns
unfolding after
returns c = c.advance.ensures ∙ ap (λ (n : ℕ). after n c.self.inside.generator) c.from.ensures ∙ ap (after c.args.count) c.self.view_is
