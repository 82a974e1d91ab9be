use Rattle.daa_state.proofs.WordLaws.{word_of-take, word_of-long}
use Rattle.daa_state.proofs.laws.first_256_bytes_decide.Goals as goal

pub returns-clause-same : goal.returns-clause-same
returns-clause-same c line format = word_of-take format line

pub returns-clause-long : goal.returns-clause-long
returns-clause-long c line format h = word_of-long format line h
