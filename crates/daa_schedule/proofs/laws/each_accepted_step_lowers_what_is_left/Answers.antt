use Rattle.daa_schedule.specs.CoreState.{CoreState, opened}
use Rattle.daa_schedule.specs.Runs.{run}
use Rattle.daa_schedule.proofs.Runs.{run_good, opened_good, moved_lowers}
use Rattle.daa_schedule.proofs.laws.each_accepted_step_lowers_what_is_left.Goals as goal

pub returns : goal.returns
returns c = λ answers workers steps step some real none not_end.
    let core : CoreState = run (opened answers workers) steps in
    rw none (moved_lowers core step (run_good (opened answers workers) steps (opened_good answers workers some real)) none not_end)
