use Rattle.std.proofs.Common.{None}
use Rattle.daa_recovery.proofs.SomeRecovery.{one_recovery}
use Rattle.daa_recovery.proofs.laws.has_one_recovery.Goals as goal

pub returns : goal.returns
returns c s p kind ok range asked = one_recovery s ok None p kind range asked
