use Rattle.std.proofs.Common.{arith}
use Rattle.daa_schedule.specs.CoreState.{opened}
use Rattle.daa_schedule.proofs.Runs.{opened_good, accepted_left, opened_left}
use Rattle.daa_schedule.proofs.laws.accepted_steps_are_few.Goals as goal

pub returns : goal.returns
returns c = λ answers workers steps some real.
    let spent = accepted_left (opened answers workers) steps (opened_good answers workers some real) in
    let all = opened_left answers workers in omega arith
