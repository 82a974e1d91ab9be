use Rattle.daa_meet.proofs.Truth.{clear_in_truth}
use Rattle.daa_meet.proofs.laws.what_may_not_meet_is_clear.Goals as goal

pub returns : goal.returns
returns c settings own candidate aircraft volume from upto clear k truth n d l b t w h =
    clear_in_truth settings own candidate aircraft volume from upto clear k truth n d l b t w h
