use Rattle.daa_engine.proofs.PlainLemmas.{without_last_times, from_without_last_times}
use Rattle.daa_engine.proofs.laws.texts_without_last_times_are_as_before.Goals as goal

pub returns : goal.returns
returns c s p text unasked = (without_last_times s p unasked text, from_without_last_times s p unasked text)
