use Rattle.daa_exercise.proofs.OneSummary.{one_summary}
use Rattle.daa_exercise.proofs.laws.every_exercise_has_one_summary.Goals as goal

pub returns : goal.returns
returns c s seed moments ok = one_summary s seed moments ok
