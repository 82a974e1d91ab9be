use Rattle.daa_margin.proofs.Growth.{grows_with_bounds}
use Rattle.daa_margin.proofs.laws.may_violate_grows_with_the_bounds.Goals as goal

pub returns : goal.returns
returns c leg volume narrow wide n d n0 d1 w h = grows_with_bounds leg volume narrow wide w n d n0 d1 h
