use Rattle.std.proofs.Common.{refl}
use Rattle.daa_lines.specs.LinesOf.{lines_of, stretches_of}
use Rattle.daa_state.specs.Number.{number, number_in, count_in}
use Rattle.daa_state.specs.WordOf.{word_of, word_of_fields, number_word, own_of, ownship, end_of}
use Rattle.daa_state.specs.MomentStep.{step, begun_moment, with_own, ended_picture}
use Rattle.daa_replay.specs.Lines.{events_of}
use Rattle.daa_replay.proofs.laws.worked_examples.Goals as goal

pub returns-clause-long_line_once : goal.returns-clause-long_line_once
unfolding events_of lines_of stretches_of word_of
returns-clause-long_line_once c = refl

pub returns-clause-end_before_own : goal.returns-clause-end_before_own
unfolding events_of lines_of stretches_of word_of word_of_fields number_word own_of ownship end_of number number_in count_in step begun_moment with_own ended_picture
returns-clause-end_before_own c = refl

pub returns-clause-unfinished : goal.returns-clause-unfinished
unfolding events_of lines_of stretches_of word_of word_of_fields number_word own_of ownship number number_in count_in step begun_moment with_own
returns-clause-unfinished c = refl

pub returns-clause-not_unfinished_yet : goal.returns-clause-not_unfinished_yet
unfolding events_of lines_of stretches_of word_of word_of_fields number_word own_of ownship number number_in count_in step begun_moment with_own
returns-clause-not_unfinished_yet c = refl

pub returns-clause-format_while_open : goal.returns-clause-format_while_open
unfolding events_of lines_of stretches_of word_of word_of_fields number_word number count_in number_in step begun_moment
returns-clause-format_while_open c = refl
