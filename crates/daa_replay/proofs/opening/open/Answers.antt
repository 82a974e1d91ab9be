use Rattle.std.proofs.Common.{map, string_bytes}
use Rattle.daa_words.specs.Order.{meaning}
use Rattle.daa_replay.proofs.OpeningLemmas.{opened_by}
use Rattle.daa_replay.proofs.opening.open.Goals as goal

pub returns-in-Ok-clause-opened : goal.returns-in-Ok-clause-opened
returns-in-Ok-clause-opened g c =
    opened_by (map string_bytes c.args.words.now) _ (meaning c.in-Ok.order) c.make_ready.result c.in-Ok.ensures.taken c.make_ready.ensures.made
