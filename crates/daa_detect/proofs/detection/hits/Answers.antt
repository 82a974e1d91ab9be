use Rattle.daa_detect.proofs.ComesNear.{far_never}
use Rattle.daa_detect.proofs.detection.hits.Goals as goal

pub returns-then-is_far : goal.returns-then-is_far
returns-then-is_far c = far_never c.args.leg.now c.args.volume.now c.requires.leg.some (c.is_far.ensures.0 c.if-is_far.true)
