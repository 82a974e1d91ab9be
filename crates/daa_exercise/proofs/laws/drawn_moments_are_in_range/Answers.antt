use Rattle.daa_exercise.proofs.RangeLemmas.{moment_range}
use Rattle.daa_exercise.proofs.laws.drawn_moments_are_in_range.Goals as goal

pub returns : goal.returns
returns c output time = moment_range output time
