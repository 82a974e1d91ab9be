use Rattle.daa_state.proofs.FormatLaws.{step-format}
use Rattle.daa_state.proofs.laws.other_words_leave_the_format.Goals as goal

pub returns : goal.returns
returns c = step-format
