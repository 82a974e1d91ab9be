use Rattle.daa_meet.proofs.Truth.{truth_on}
use Rattle.daa_meet.proofs.laws.no_true_violation_is_missed.Goals as goal

pub returns : goal.returns
returns c settings own candidate aircraft volume k truth n d t w h = truth_on settings own candidate aircraft volume k truth n d t w h
