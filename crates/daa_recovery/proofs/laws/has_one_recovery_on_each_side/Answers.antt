use Rattle.std.proofs.Common.{Some}
use Rattle.daa_recovery.proofs.SomeRecovery.{one_recovery}
use Rattle.daa_recovery.proofs.laws.has_one_recovery_on_each_side.Goals as goal

pub returns : goal.returns
returns c side s p kind ok range asked = one_recovery s ok (Some side) p kind range asked
