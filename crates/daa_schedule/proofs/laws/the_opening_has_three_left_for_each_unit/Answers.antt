use Rattle.daa_schedule.proofs.Runs.{opened_left}
use Rattle.daa_schedule.proofs.laws.the_opening_has_three_left_for_each_unit.Goals as goal

pub returns : goal.returns
returns c = opened_left
