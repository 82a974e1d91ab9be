use Rattle.std.proofs.Common.{refl}
use Rattle.daa_engine.proofs.LengthLemmas.{text_short}
use Rattle.daa_engine.proofs.TextLemmas.{reported}
use Rattle.daa_engine.proofs.alone.say_moment.Goals as goal

pub returns-clause-says : goal.returns-clause-says
returns-clause-says g c =
    reported c.args.config.now c.args.picture.now c.args.board.now c.find_alerts-alerts.result.items c.find-findings.result _ _ _ _ c.say.result
    c.requires.board _ _ _ refl refl c.deref.ensures.0 c.levels-levels.ensures.accepted c.find_alerts-alerts.ensures c.find-findings.ensures c.say.ensures

pub returns-clause-short : goal.returns-clause-short
returns-clause-short g c text is =
    text_short c.args.config.now c.args.picture.now c.levels-levels.ensures.accepted c.requires.picture c.time_of-time.ensures.fits text is
