use Rattle.daa_schedule.specs.CoreState.{opened}
use Rattle.daa_schedule.proofs.Runs.{run_good, opened_good}
use Rattle.daa_schedule.proofs.laws.every_run_is_whole.Goals as goal

pub returns : goal.returns
returns c = λ answers workers steps some real. (run_good (opened answers workers) steps (opened_good answers workers some real)).1
