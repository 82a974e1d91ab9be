use Rattle.std.proofs.Common.{refl}
use Rattle.daa_lines.specs.LinesOf.{stretches_of, lines_of}
use Rattle.daa_lines.proofs.laws.worked_examples.Goals as goal

pub returns-clause-kept_return : goal.returns-clause-kept_return
unfolding lines_of stretches_of
returns-clause-kept_return c = refl

pub returns-clause-rest_at_end : goal.returns-clause-rest_at_end
unfolding lines_of stretches_of
returns-clause-rest_at_end c = refl

pub returns-clause-no_empty_rest : goal.returns-clause-no_empty_rest
unfolding lines_of stretches_of
returns-clause-no_empty_rest c = refl

pub returns-clause-rest_of_255 : goal.returns-clause-rest_of_255
unfolding lines_of stretches_of
returns-clause-rest_of_255 c = refl

pub returns-clause-rest_of_256 : goal.returns-clause-rest_of_256
unfolding lines_of stretches_of
returns-clause-rest_of_256 c = refl

pub returns-clause-to_line_feed : goal.returns-clause-to_line_feed
returns-clause-to_line_feed c = refl

pub returns-clause-to_256 : goal.returns-clause-to_256
returns-clause-to_256 c = refl

pub returns-clause-line_feed_after_255 : goal.returns-clause-line_feed_after_255
returns-clause-line_feed_after_255 c = refl

pub returns-clause-skips_all : goal.returns-clause-skips_all
returns-clause-skips_all c = refl

pub returns-clause-none_while_standing : goal.returns-clause-none_while_standing
returns-clause-none_while_standing c = refl
