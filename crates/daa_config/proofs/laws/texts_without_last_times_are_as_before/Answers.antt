use Rattle.daa_config.proofs.BeforeLemmas.{document_as_before}
use Rattle.daa_config.proofs.laws.texts_without_last_times_are_as_before.Goals as goal

pub returns : goal.returns
returns c = document_as_before
