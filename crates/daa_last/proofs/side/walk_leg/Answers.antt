use Rattle.daa_last.proofs.Sides.{walk_more}
use Rattle.daa_last.proofs.side.walk_leg.Goals as goal

pub returns-else-is_struck-clause-walk : goal.returns-else-is_struck-clause-walk
returns-else-is_struck-clause-walk c = walk_more c.args.config.now c.args.picture.now c.args.m c.args.side.now.lead c.args.walk.now c.requires.walk
    (λ s. let t = c.is_struck.ensures.1 s in cc (t, c.if-is_struck.false))
