use Rattle.std.proofs.Common.{◌∙◌}
use Rattle.daa_schedule.specs.CoreState.{opened}
use Rattle.daa_schedule.specs.Runs.{run}
use Rattle.daa_schedule.proofs.Runs.{run_good, opened_good, all_answered, answers_kept}
use Rattle.daa_schedule.proofs.laws.a_run_to_the_end_answers_all.Goals as goal

pub returns : goal.returns
returns c = λ answers workers steps some real over.
    all_answered (run (opened answers workers) steps) (run_good (opened answers workers) steps (opened_good answers workers some real)) over
    ∙ answers_kept (opened answers workers) steps
