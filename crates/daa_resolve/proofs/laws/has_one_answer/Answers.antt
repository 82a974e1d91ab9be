use Rattle.daa_resolve.proofs.SomeResolution.{has_one}
use Rattle.daa_resolve.proofs.laws.has_one_answer.Goals as goal

pub returns : goal.returns
returns c = has_one
