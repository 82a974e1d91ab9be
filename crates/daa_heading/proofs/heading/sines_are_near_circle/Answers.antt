use Rattle.daa_heading.proofs.Circle.{near_circle}
use Rattle.daa_heading.proofs.heading.sines_are_near_circle.Goals as goal

pub returns : goal.returns
returns c = near_circle
