use Rattle.daa_pool.proofs.CrewLemmas.{all_of_two}
use Rattle.daa_pool.proofs.tests.gather_two.Goals as goal

pub gather-requires-clause-all : goal.gather-requires-clause-all
gather-requires-clause-all c = all_of_two _ _ _ c.args.zero c.args.one c.args.pool.workers
    (c.in_ok-push.ensures).items (c.in_ok-push-2.ensures).items c.requires.zero.1 c.requires.one.1 c.requires.pool.0
