use Rattle.daa_state.proofs.StepLemmas.{step-Own, step-Traffic}
use Rattle.daa_state.proofs.moments.Moments.take.Goals as goal

pub returns-in_ok-add_own-in-Own-clause-taken : goal.returns-in_ok-add_own-in-Own-clause-taken
returns-in_ok-add_own-in-Own-clause-taken c =
    rw (← c.self.view_is, c.in-Own.is) (step-Own _ _ _ _ _ _ c.in_ok-add_own-in-Own.ensures.added)

pub returns-in_ok-add_traffic-in-Traffic-clause-taken : goal.returns-in_ok-add_traffic-in-Traffic-clause-taken
returns-in_ok-add_traffic-in-Traffic-clause-taken c =
    rw (← c.self.view_is, c.in-Traffic.is) (step-Traffic _ _ _ _ _ c.in_ok-add_traffic-in-Traffic.ensures.added)
