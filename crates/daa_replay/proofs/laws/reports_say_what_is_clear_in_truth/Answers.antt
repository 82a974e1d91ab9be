use Rattle.daa_replay.specs.Lines.{events_of}
use Rattle.daa_replay.proofs.ClearLemmas.{events_clear}
use Rattle.daa_replay.proofs.laws.reports_say_what_is_clear_in_truth.Goals as goal

pub returns : goal.returns
returns c settings bytes ended text ok is = events_clear settings ok (events_of bytes ended) text is
