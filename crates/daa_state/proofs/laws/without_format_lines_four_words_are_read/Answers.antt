use Rattle.daa_state.proofs.FormatLaws.{only_format_lines_say_formats, word_of-four}
use Rattle.daa_state.proofs.laws.without_format_lines_four_words_are_read.Goals as goal

pub returns-clause-none : goal.returns-clause-none
returns-clause-none c = only_format_lines_say_formats

pub returns-clause-same : goal.returns-clause-same
returns-clause-same c = word_of-four
