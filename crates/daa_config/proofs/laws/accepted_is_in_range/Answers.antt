use Rattle.daa_config.proofs.TextLemmas.{in_range}
use Rattle.daa_config.proofs.laws.accepted_is_in_range.Goals as goal

pub returns : goal.returns
returns c = in_range
