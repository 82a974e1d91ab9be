use Rattle.daa_replay.proofs.EarlyLemmas.{has_no_bounds}
use Rattle.daa_replay.proofs.laws.inputs_without_format_3_have_no_bounds.Goals as goal

pub returns : goal.returns
returns c = has_no_bounds
