use Rattle.std.proofs.Common.{rules, ◌∙◌, ap}
use Rattle.rand_pcg.specs.Lcg.{Lcg}
use Rattle.daa_exercise.specs.Inside.Drawing.{after, outputs_from}
use Rattle.daa_exercise.specs.Outputs.{picked}
use Rattle.daa_exercise.proofs.DrawLemmas.{computed, first_is, rest_is}
use Rattle.daa_exercise.proofs.draws.Draws.pick.Goals as goal

pub returns-clause-value : goal.returns-clause-value
returns-clause-value c =
    let output = first_is c.self.inside.generator c.next_word-output.new.self c.next_word-output.result c.next_word-output.ensures in
    computed c.args.bounds.now.low c.args.bounds.now.high c.next_word-output.result c.requires.ordered c.requires.short (search rules) (search rules)
    ∙ ap (picked c.args.bounds.now.low c.args.bounds.now.high) (output ∙ ap (λ (g : Lcg). outputs_from g 0) c.self.view_is)

pub returns-clause-rest : goal.returns-clause-rest
returns-clause-rest c =
    rest_is c.self.inside.generator c.next_word-output.new.self c.next_word-output.result c.next_word-output.ensures ∙ ap (after 1) c.self.view_is
