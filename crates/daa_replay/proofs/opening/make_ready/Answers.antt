use Rattle.daa_words.specs.Order.{meaning}
use Rattle.daa_replay.proofs.OpeningLemmas.{no_work}
use Rattle.daa_replay.proofs.opening.make_ready.Goals as goal

pub returns-in-Err-clause-made : goal.returns-in-Err-clause-made
returns-in-Err-clause-made g c =
    no_work _ _ (meaning c.args.order.now) c.in_ok-engine.engine.settings c.in-Err.why c.in_ok-engine.ensures.kept c.in_ok-engine.ensures.fetched c.in-Err.ensures.prepared
