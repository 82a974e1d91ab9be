use Rattle.daa_last.proofs.Openness.{open_by_0}
use Rattle.daa_last.proofs.laws.open_by_0_is_open.Goals as goal

pub returns : goal.returns
returns c settings picture candidate = open_by_0 settings picture candidate
