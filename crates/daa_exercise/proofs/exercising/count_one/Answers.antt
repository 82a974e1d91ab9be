use Rattle.std.proofs.Common.{◌∙◌, ap, subst}
use Rattle.daa_config.specs.Settings.{Settings}
use Rattle.daa_engine.specs.EngineState.{EngineState}
use Rattle.daa_exercise.specs.Inside.Counting.{CountsPicture}
use Rattle.daa_exercise.proofs.exercising.count_one.Goals as goal

pub returns-clause-counted : goal.returns-clause-counted
returns-clause-counted g c =
    let same = ap (λ (e : EngineState). e.settings) c.decide.ensures.kept in
    subst (λ (s : Settings). CountsPicture s c.args.picture.now c.args.counts.now c.add.new.self) (c.config.ensures.value ∙ same) c.add.ensures
