use Rattle.daa_meet.proofs.Truth.{leg_widens, between_widens}
use Rattle.daa_meet.proofs.laws.wider_bounds_meet_no_less.Goals as goal

pub returns : goal.returns
returns c = record {
  on_a_leg = λ wide settings own candidate aircraft volume k w. leg_widens wide settings own candidate aircraft volume w k;
  between = λ wide settings own candidate aircraft volume from upto w. between_widens wide settings own candidate aircraft volume w from upto;
}
