use Rattle.daa_last.proofs.Delays.{undelayed}
use Rattle.daa_last.proofs.laws.delayed_by_0_is_the_candidate.Goals as goal

pub returns : goal.returns
returns c own rates candidate k = undelayed own rates candidate k
