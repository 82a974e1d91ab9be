use Rattle.daa_engine.proofs.ClearTextLemmas.{text_clear}
use Rattle.daa_engine.proofs.laws.texts_say_what_is_clear_in_truth.Goals as goal

pub returns : goal.returns
returns c s p text ok is = text_clear s p ok text is
