use Rattle.daa_detect.proofs.ComesNear.{far_never}
use Rattle.daa_detect.proofs.detection.is_hit.Goals as goal

pub returns-then-is_far : goal.returns-then-is_far
returns-then-is_far c = ((λ t. absurd (cc t)), (λ s. absurd (far_never c.args.leg.now c.args.volume.now c.requires.leg.some (c.is_far.ensures.0 c.if-is_far.true) s.num s.den s.time s.holds)))
