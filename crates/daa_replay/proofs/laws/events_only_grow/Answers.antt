use Rattle.daa_replay.proofs.EventLemmas.{events_begin, events_end}
use Rattle.daa_replay.proofs.laws.events_only_grow.Goals as goal

pub returns : goal.returns
returns c = record { longer = events_begin; whole = events_end }
