use Rattle.daa_engine.proofs.LengthLemmas.{text_short}
use Rattle.daa_engine.proofs.laws.texts_are_short.Goals as goal

pub returns : goal.returns
returns c s p text ok r t is = text_short s p ok r t text is
