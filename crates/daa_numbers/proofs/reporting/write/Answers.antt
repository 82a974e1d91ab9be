use Rattle.daa_numbers.proofs.SheetLemmas.{said}
use Rattle.daa_numbers.proofs.reporting.write.Goals as goal

pub returns : goal.returns
returns c =
    said c.args.config.now c.args.picture.now _ _ _ _ _ c.requires.empty c.say_moment-fits.new.sink.full c.say_moment-fits.ensures.short c.say_moment-fits.ensures.says
