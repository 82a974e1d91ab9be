use Rattle.daa_legs.proofs.Exactness.{exact_leg}
use Rattle.daa_meet.proofs.laws.exact_reports_are_taken_as_the_truth.Goals as goal

pub returns : goal.returns
returns c settings own candidate aircraft volume k e = exact_leg settings own candidate aircraft volume e k
