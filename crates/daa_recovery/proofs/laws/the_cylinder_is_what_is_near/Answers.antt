use Rattle.daa_recovery.proofs.Cylinders.{cylinder}
use Rattle.daa_recovery.proofs.laws.the_cylinder_is_what_is_near.Goals as goal

pub returns : goal.returns
returns c leg dthr zthr n d one = cylinder leg dthr zthr n d one
