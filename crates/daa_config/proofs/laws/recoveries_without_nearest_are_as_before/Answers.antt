use Rattle.daa_config.proofs.BeforeLemmas.{recovery_as_before}
use Rattle.daa_config.proofs.laws.recoveries_without_nearest_are_as_before.Goals as goal

pub returns : goal.returns
returns c = recovery_as_before
