use Rattle.daa_legs.proofs.ClosedForms.{ground_speed-next, vertical_speed-next, height-next}
use Rattle.daa_legs.proofs.laws.legs_move_by_the_rates.Goals as goal

pub returns : goal.returns
returns c = record {
  ground_speed = λ own rates g k r. ground_speed-next own rates g k r;
  vertical_speed = λ own rates w k r. vertical_speed-next own rates w k r;
  height = λ own rates a k r. height-next own rates a k r;
}
