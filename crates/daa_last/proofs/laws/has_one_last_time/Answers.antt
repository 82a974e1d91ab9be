use Rattle.daa_last.proofs.SomeLast.{one_last_time}
use Rattle.daa_last.proofs.laws.has_one_last_time.Goals as goal

pub returns : goal.returns
returns c settings picture kind ok range = one_last_time settings ok picture range kind
