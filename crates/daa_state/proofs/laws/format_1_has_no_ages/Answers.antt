use Rattle.daa_state.proofs.AgeLaws.{word_of-current, step-current}
use Rattle.daa_state.proofs.laws.format_1_has_no_ages.Goals as goal

pub returns-clause-words : goal.returns-clause-words
returns-clause-words c = word_of-current

pub returns-clause-steps : goal.returns-clause-steps
returns-clause-steps c = step-current
