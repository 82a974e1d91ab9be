use Rattle.daa_replay.proofs.CompleteLemmas.{runs_complete}
use Rattle.daa_replay.proofs.laws.runs_are_complete.Goals as goal

pub returns : goal.returns
returns c = runs_complete
