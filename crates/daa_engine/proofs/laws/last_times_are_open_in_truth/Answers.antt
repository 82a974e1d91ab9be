use Rattle.daa_engine.proofs.ClearLemmas.{delayed_clear, last_clear}
use Rattle.daa_engine.proofs.laws.last_times_are_open_in_truth.Goals as goal

pub returns : goal.returns
returns c = record { delayed = λ s p candidate m is_open. delayed_clear s p candidate m is_open; last_times = λ s p kind m last. last_clear s p kind m last }
