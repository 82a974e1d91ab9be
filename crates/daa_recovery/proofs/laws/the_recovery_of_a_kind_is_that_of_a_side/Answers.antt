use Rattle.daa_recovery.proofs.EitherSide.{soonest_of_a_side, none_on_sides}
use Rattle.daa_recovery.proofs.laws.the_recovery_of_a_kind_is_that_of_a_side.Goals as goal

pub returns-clause-some : goal.returns-clause-some
returns-clause-some c s p kind r h = soonest_of_a_side s p kind r h

pub returns-clause-none : goal.returns-clause-none
returns-clause-none c s p kind h side = none_on_sides s p kind h side
