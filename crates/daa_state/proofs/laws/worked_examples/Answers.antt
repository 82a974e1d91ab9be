use Rattle.std.proofs.Common.{refl}
use Rattle.daa_state.specs.Number.{number, number_in, count_in}
use Rattle.daa_state.specs.WordOf.{word_of, word_of_fields, own_of, bounded_own_of, ownship, report_bounds, traffic_of, aged_traffic_of, bounded_traffic_of, aircraft}
use Rattle.daa_state.specs.MomentStep.{step, begun_moment}
use Rattle.daa_state.proofs.laws.worked_examples.Goals as goal

pub returns-clause-signs_and_zeros : goal.returns-clause-signs_and_zeros
unfolding word_of word_of_fields own_of ownship number number_in
returns-clause-signs_and_zeros c = refl

pub returns-clause-blanks_and_age : goal.returns-clause-blanks_and_age
unfolding word_of word_of_fields aged_traffic_of aircraft number number_in count_in
returns-clause-blanks_and_age c = refl

pub returns-clause-bounds : goal.returns-clause-bounds
unfolding word_of word_of_fields bounded_own_of ownship report_bounds number number_in count_in
returns-clause-bounds c = refl

pub returns-clause-age_and_bounds : goal.returns-clause-age_and_bounds
unfolding word_of word_of_fields bounded_traffic_of aircraft report_bounds number number_in count_in
returns-clause-age_and_bounds c = refl

pub returns-clause-bounds_of_format_2 : goal.returns-clause-bounds_of_format_2
unfolding word_of word_of_fields own_of
returns-clause-bounds_of_format_2 c = refl

pub returns-clause-longest_comment : goal.returns-clause-longest_comment
unfolding word_of word_of_fields
returns-clause-longest_comment c = refl

pub returns-clause-long_comment : goal.returns-clause-long_comment
unfolding word_of
returns-clause-long_comment c = refl

pub returns-clause-capital : goal.returns-clause-capital
unfolding word_of word_of_fields
returns-clause-capital c = refl

pub returns-clause-two_returns : goal.returns-clause-two_returns
unfolding word_of word_of_fields
returns-clause-two_returns c = refl

pub returns-clause-two_fields : goal.returns-clause-two_fields
unfolding word_of word_of_fields own_of
returns-clause-two_fields c = refl

pub returns-clause-spelling_first : goal.returns-clause-spelling_first
unfolding word_of word_of_fields own_of ownship number number_in
returns-clause-spelling_first c = refl

pub returns-clause-nine_bytes : goal.returns-clause-nine_bytes
unfolding word_of word_of_fields traffic_of aircraft
returns-clause-nine_bytes c = refl

pub returns-clause-range_first : goal.returns-clause-range_first
unfolding word_of word_of_fields own_of ownship number number_in
returns-clause-range_first c = refl

pub returns-clause-open_first : goal.returns-clause-open_first
unfolding step begun_moment
returns-clause-open_first c = refl

pub returns-clause-not_later : goal.returns-clause-not_later
unfolding step begun_moment
returns-clause-not_later c = refl
