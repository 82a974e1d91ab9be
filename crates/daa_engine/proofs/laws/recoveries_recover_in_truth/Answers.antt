use Rattle.daa_engine.proofs.ClearLemmas.{recovery_clear}
use Rattle.daa_engine.proofs.laws.recoveries_recover_in_truth.Goals as goal

pub returns : goal.returns
returns c s p kind r is = recovery_clear s p kind r is
