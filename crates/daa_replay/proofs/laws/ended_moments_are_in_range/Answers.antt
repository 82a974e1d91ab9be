use Rattle.daa_replay.proofs.SomeReport.{events_in_range}
use Rattle.daa_replay.proofs.laws.ended_moments_are_in_range.Goals as goal

pub returns : goal.returns
returns c bytes ended = events_in_range bytes ended
