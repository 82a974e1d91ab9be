use Rattle.daa_lines.proofs.JoinedLemmas.{joined-stretches_of, stretches_of-joined, stretches_without_feeds}
use Rattle.daa_lines.proofs.laws.stretches_are_the_bytes.Goals as goal

pub returns : goal.returns
returns c = record { joined = joined-stretches_of; without_feeds = stretches_without_feeds; only = stretches_of-joined }
