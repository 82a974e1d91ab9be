use Rattle.daa_detect.proofs.FoundTimes.{found_sometime}
use Rattle.daa_detect.proofs.detection.has_nearest_hit.Goals as goal

pub returns : goal.returns
returns c = found_sometime c.args.leg.now c.args.volume.now c.nearest_hit.result c.is_some.result c.nearest_hit.ensures c.is_some.ensures
