use Rattle.daa_engine.proofs.PlainLemmas.{plain, from_plain}
use Rattle.daa_engine.proofs.laws.texts_without_a_recovery_are_as_before.Goals as goal

pub returns : goal.returns
returns c s p text no_last no_recovery = (plain s p no_last no_recovery text, from_plain s p no_last no_recovery text)
