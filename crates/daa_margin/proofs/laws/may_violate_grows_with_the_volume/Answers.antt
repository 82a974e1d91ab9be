use Rattle.daa_margin.proofs.Growth.{grows_with_volume}
use Rattle.daa_margin.proofs.laws.may_violate_grows_with_the_volume.Goals as goal

pub returns : goal.returns
returns c leg inner outer bounds n d n0 d1 w h = grows_with_volume leg inner outer bounds w n d n0 d1 h
