use Rattle.daa_config.proofs.BeforeLemmas.{as_before}
use Rattle.daa_config.proofs.laws.levels_without_tau_and_tep_are_as_before.Goals as goal

pub returns : goal.returns
returns c = as_before
