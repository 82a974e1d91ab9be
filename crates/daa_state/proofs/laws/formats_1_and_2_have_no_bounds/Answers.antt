use Rattle.daa_state.proofs.SureLaws.{word_of-sure, step-sure}
use Rattle.daa_state.proofs.laws.formats_1_and_2_have_no_bounds.Goals as goal

pub returns-clause-words : goal.returns-clause-words
returns-clause-words c = word_of-sure

pub returns-clause-steps : goal.returns-clause-steps
returns-clause-steps c = step-sure
