use Rattle.daa_meet.proofs.Constant.{constant_within}
use Rattle.daa_meet.proofs.laws.constant_errors_are_within.Goals as goal

pub returns : goal.returns
returns c bounds own aircraft leg age k n d o t n0 d1 = constant_within bounds own aircraft leg age k n d o t n0 d1
