use Rattle.daa_recovery.proofs.LaterSeconds.{lasts}
use Rattle.daa_recovery.proofs.laws.recovering_lasts.Goals as goal

pub returns : goal.returns
returns c p candidate m n le r = lasts p candidate m n le r
