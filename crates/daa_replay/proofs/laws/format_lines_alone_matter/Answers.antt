use Rattle.daa_replay.proofs.AgeLemmas.{has_no_ages}
use Rattle.daa_replay.proofs.FourWordLemmas.{reads_as_four_words}
use Rattle.daa_replay.proofs.laws.format_lines_alone_matter.Goals as goal

pub returns-clause-words : goal.returns-clause-words
returns-clause-words c = reads_as_four_words

pub returns-clause-ages : goal.returns-clause-ages
returns-clause-ages c = has_no_ages
