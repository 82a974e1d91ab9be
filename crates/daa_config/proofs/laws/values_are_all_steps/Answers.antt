use Rattle.daa_config.proofs.GridLemmas.{steps_up_to}
use Rattle.daa_config.proofs.laws.values_are_all_steps.Goals as goal

pub returns : goal.returns
returns c = steps_up_to
